-- A list passes exactly if some set of cells seals to it.
use Rattle.std.proofs.Common.{◌≡◌, ℕ, zero, suc, ◌+◌, ◌*◌, ◌^◌, ◌<◌, ◌≤◌, Bool, true, false, cond, ◌&&◌, eqb, ltb, leb, List, [], ◌∷◌, ◌++◌, length, take, sym, refl, ap, ◌∙◌, subst, ap₂, ⊎_elim, one-mul, zero-add, zero-mul, add-one, arith}
use Rattle.std.specs.List.{AllByRecursion}
use Rattle.std.proofs.lemmas.List.{get_or_push, length_push, take_more, take_all, length-take-le}
use Rattle.std.proofs.lemmas.Bool.{cases_lt, cases_Bool, lt-ltb, le-ltb, eq-eqb, cond-true, cond-false, cond_both, both_ways}
use Rattle.std.proofs.lemmas.Bool.Decides.{nat_tests}
use Rattle.cells.proofs.Digits.{digits_below}
use Rattle.nodes.specs.Records.{blank}
use Rattle.nodes.specs.declared.node.Node.{Node}
use Rattle.dag.specs.Sets.{CellSet, Rising, count, has}
use Rattle.dag.specs.Rules.{node_at, link_of, offset_of, NodeRules}
use Rattle.dag.specs.Walk.{walk, root, MarksExactly}
use Rattle.dag.specs.Records.{first, lowest, occupied, link_to, record_of}
use Rattle.dag.specs.Sealed.{Begins, turn, sealed}
use Rattle.dag.specs.Laws.{Nameable}
use Rattle.dag.specs.Delivered.{Seals, marked}
use Rattle.dag.specs.Sizes.{has_child, RightOffsets, size_before}
use Rattle.dag.specs.Meets.{through, meet, meet_children}
use Rattle.dag.specs.Judged.{Shaped, cells_under, Passes, PassesSeals, SealsPasses}
use Rattle.dag.specs.Checks.{Here}
use Rattle.dag.proofs.Counts.{has_holds}
use Rattle.dag.proofs.Growth.{begins_self, begins_trans, begins_length, begins_node, turn_begins}
use Rattle.dag.proofs.Visits.{each, visit, in_sub_cube, sealed_visit}
use Rattle.dag.proofs.Known.{ChildrenKnown, visit_begins}
use Rattle.dag.proofs.Empty.{visit_free, count_free}
use Rattle.dag.proofs.Contents.{free_cell, occupied_cell}
use Rattle.dag.proofs.Stages.{turn_there, turn_new}
use Rattle.dag.proofs.Sound.{Sound}
use Rattle.dag.proofs.Parts.{offset_is}
use Rattle.dag.proofs.Marks.{walk_is}
use Rattle.dag.proofs.Origins.{Origin, Sourced, sealed_sourced}
use Rattle.dag.proofs.Laws.{keeps_rules, marks_cells}
use Rattle.dag.proofs.Whole.{Distinct, sealed_distinct, sealed_sound, sealed_free}
use Rattle.dag.proofs.Fewest.{Serves, walk_inside}
use Rattle.dag.proofs.Marked.{marked_set, marks_marked}
use Rattle.dag.proofs.Sizes.{AllShaped, At, child_at, child_there, some_marked, size_is, before_is}
use Rattle.dag.proofs.Meeting.{meet_met, left_within, leave_next, meet_left, kids_grow, kids_met, links_met, kids_low}
use Rattle.dag.proofs.Fronts.{front_number, front_new, LinksBelow, links_below, record_is}

-- ---- visits and numbers met

module _ (L : ℕ) (ns : List Node) (cells : List ℕ) (rules : NodeRules L ns) (few : Nameable ns) (shaped : AllShaped ns) (rising : Rising cells)
    (alone : Distinct ns) (offsets : (n : ℕ) → n < length ns → RightOffsets ns n) where
  -- a record stands only for an occupied sub-cube
  occupied_at : (k s n : ℕ) → Serves cells ns (suc k) s n → occupied cells (suc k) s ≡ true
  occupied_at k s n h =
      let c = some_marked L ns rules few shaped k n h.there h.level in
      ⊎_elim (λ o. o)
      (λ o. absurd (both_ways (has cells (first (suc k) s + c.0)) (free_cell cells (suc k) s o c.0 c.1) (sym (h.tells c.0 c.1) ∙ c.2)))
      (cases_Bool (occupied cells (suc k) s))

  here_at : (k s n : ℕ) → At cells ns k s n → Here ns k n
  here_at zero s n h = tt
  here_at (suc k) s n h = (h.there, h.level)

  -- the visit of a sub-cube takes the list from the records met before to those met after
  abbrev Visited : ℕ → ℕ → ℕ → ℕ → Type 0
  Visited k s n m = meet ns k n m ≤ length ns → visit cells k s (take m ns) ≡ take (meet ns k n m) ns

  child_visited : (k s n i m : ℕ) → i < 8 → Serves cells ns (suc k) s n → m ≤ length ns
      → ((t q r : ℕ) → At cells ns k t q → r ≤ length ns → Visited k t q r)
      → cond (has_child (node_at ns n) i) (meet ns k (link_of (node_at ns n) i) m) m ≤ length ns
      → visit cells k (8 * s + i) (take m ns) ≡ take (cond (has_child (node_at ns n) i) (meet ns k (link_of (node_at ns n) i) m) m) ns
  child_visited k s n i m l h low rest within =
      let e = child_there L ns cells rules few shaped k s n i l h in
      ⊎_elim
      (λ o. let f = cond-true (has_child (node_at ns n) i) (meet ns k (link_of (node_at ns n) i) m) m (e ∙ o) in
      rest (8 * s + i) (link_of (node_at ns n) i) m (child_at cells ns k s n i l h o) low (subst (λ x. x ≤ length ns) f within) ∙ ap (λ x. take x ns) (sym f))
      (λ o. visit_free cells k (8 * s + i) (take m ns) o
      ∙ ap (λ x. take x ns) (sym (cond-false (has_child (node_at ns n) i) (meet ns k (link_of (node_at ns n) i) m) m (e ∙ o))))
      (cases_Bool (occupied cells k (8 * s + i)))

  children_visited : (k s n m : ℕ) → Serves cells ns (suc k) s n → m ≤ length ns
      → ((t q r : ℕ) → At cells ns k t q → r ≤ length ns → Visited k t q r)
      → (i : ℕ) → i ≤ 8 → meet_children ns k n i m ≤ length ns → each (visit cells k) (8 * s) i (take m ns) ≡ take (meet_children ns k n i m) ns
  unfolding each through
  children_visited k s n m h low rest zero l within = refl
  children_visited k s n m h low rest (suc i) l within =
      let grow = kids_grow ns rules.r3 k n i m l (h.there, h.level) (omega arith) in
      ap (visit cells k (8 * s + i)) (children_visited k s n m h low rest i (omega arith) (omega arith))
      ∙ child_visited k s n i (meet_children ns k n i m) l h (omega arith) rest within

  -- the own turn: a record met before is there, and the next one is written
  turn_met : (k s n m : ℕ) → Serves cells ns (suc k) s n → m ≤ length ns → n < m → turn cells k s (take m ns) ≡ take m ns
  turn_met k s n m h low b =
      let e = record_is L ns cells rules few shaped rising alone offsets m low k s n h (links_below L ns cells rules few shaped rising alone offsets k n m h.there h.level (omega arith)) in
      let l = length-take-le m ns low in
      let f = front_number ns alone m low n b in
      turn_there cells k s (take m ns) (occupied_at k s n h) (rw (e, f) (omega arith))

  turn_next : (k s n m : ℕ) → Serves cells ns (suc k) s n → m ≤ n → LinksBelow ns k n m → turn cells k s (take m ns) ≡ take m ns ++ node_at ns n ∷ []
  turn_next k s n m h b links =
      let inside = h.there in
      let e = record_is L ns cells rules few shaped rising alone offsets m (omega arith) k s n h links in
      turn_new cells k s (take m ns) (occupied_at k s n h) (subst (λ a. length (take m ns) ≤ lowest (take m ns) a) (sym e) (front_new ns alone m (omega arith) n b inside))
      ∙ ap (λ a. take m ns ++ a ∷ []) e

  visit_more : (k s : ℕ) (ms : List Node) → visit cells (suc k) s ms ≡ turn cells k s (each (visit cells k) (8 * s) 8 ms)
  unfolding visit
  visit_more k s ms = refl

  pub visited : (k s n m : ℕ) → At cells ns k s n → m ≤ length ns → Visited k s n m
  visited zero s n m h low within = unfold visit meet in refl
  visited (suc k) s n m h low within =
      let here = here_at (suc k) s n h in
      visit_more k s (take m ns)
      ∙ ⊎_elim
      (λ b.
      let f = kids_met ns rules.r3 k n 8 m (omega arith) here b in
      ap (turn cells k s) (children_visited k s n m h low (visited k) 8 (omega arith) (omega arith) ∙ ap (λ x. take x ns) f)
      ∙ turn_met k s n m h low b
      ∙ ap (λ x. take x ns) (sym (meet_met ns k n m b)))
      (λ b.
      let r = left_within ns k n m b within in
      let e = r.0 in
      let inside = h.there in
      ap (turn cells k s) (children_visited k s n m h low (visited k) 8 (omega arith) (omega arith) ∙ ap (λ x. take x ns) (sym e))
      ∙ turn_next k s n n h (omega arith) (links_below L ns cells rules few shaped rising alone offsets k n n inside h.level (omega arith))
      ∙ sym (take_more ns n blank inside)
      ∙ ap (λ x. take x ns) (add-one n ∙ sym r.1))
      (cases_lt n m)

  -- ---- and where the visit stays within the list, the numbers do

  abbrev Fits : ℕ → ℕ → ℕ → ℕ → Type 0
  Fits k s n m = Begins (visit cells k s (take m ns)) ns → meet ns k n m ≤ length ns

  child_fits : (k s n i m : ℕ) → i < 8 → Serves cells ns (suc k) s n → m ≤ length ns
      → ((t q r : ℕ) → At cells ns k t q → r ≤ length ns → Fits k t q r)
      → Begins (visit cells k (8 * s + i) (take m ns)) ns
      → cond (has_child (node_at ns n) i) (meet ns k (link_of (node_at ns n) i) m) m ≤ length ns
  child_fits k s n i m l h low rest begins =
      let e = child_there L ns cells rules few shaped k s n i l h in
      ⊎_elim
      (λ o. subst (λ x. x ≤ length ns) (sym (cond-true (has_child (node_at ns n) i) (meet ns k (link_of (node_at ns n) i) m) m (e ∙ o)))
      (rest (8 * s + i) (link_of (node_at ns n) i) m (child_at cells ns k s n i l h o) low begins))
      (λ o. subst (λ x. x ≤ length ns) (sym (cond-false (has_child (node_at ns n) i) (meet ns k (link_of (node_at ns n) i) m) m (e ∙ o))) low)
      (cases_Bool (occupied cells k (8 * s + i)))

  children_fit : (k s n m : ℕ) → Serves cells ns (suc k) s n → m ≤ length ns
      → ((t q r : ℕ) → At cells ns k t q → r ≤ length ns → Fits k t q r)
      → (i : ℕ) → i ≤ 8 → Begins (each (visit cells k) (8 * s) i (take m ns)) ns → meet_children ns k n i m ≤ length ns
  unfolding each through
  children_fit k s n m h low rest zero l begins = low
  children_fit k s n m h low rest (suc i) l begins =
      let before = each (visit cells k) (8 * s) i (take m ns) in
      let w = children_fit k s n m h low rest i (omega arith) (begins_trans before (visit cells k (8 * s + i) before) ns (visit_begins cells k (8 * s + i) before) begins) in
      child_fits k s n i (meet_children ns k n i m) l h w rest
      (subst (λ xs. Begins (visit cells k (8 * s + i) xs) ns) (children_visited k s n m h low (visited k) i (omega arith) w) begins)

  -- after the children the links lie below the number met
  links_after : (k s n m : ℕ) → Serves cells ns (suc k) s n → m ≤ length ns → meet_children ns k n 8 m ≤ length ns → LinksBelow ns k n (meet_children ns k n 8 m)
  links_after zero s n m h low within = tt
  links_after (suc k) s n m h low within = links_met ns rules.r3 k n m (h.there, h.level) (omega arith) 8 (omega arith) within

  -- the next record written is record n
  next_is : (n m : ℕ) → n < length ns → m ≤ length ns → Begins (take m ns ++ node_at ns n ∷ []) ns → n ≡ m
  next_is n m inside low begins =
      let l = length_push (take m ns) (node_at ns n) in
      let t = length-take-le m ns low in
      let b = begins_length (take m ns ++ node_at ns n ∷ []) ns begins in
      let e : node_at ns m ≡ node_at ns n = begins_node (take m ns ++ node_at ns n ∷ []) ns m begins (omega arith) ∙ get_or_push (take m ns) (node_at ns n) blank m t in
      sym (alone n inside) ∙ ap (lowest ns) (sym e) ∙ alone m (omega arith)

  pub fits : (k s n m : ℕ) → At cells ns k s n → m ≤ length ns → Fits k s n m
  fits zero s n m h low begins = unfold meet in low
  fits (suc k) s n m h low begins =
      let here = here_at (suc k) s n h in
      let inside = h.there in
      let level = h.level in
      ⊎_elim
      (λ b. rw (meet_met ns k n m b) low)
      (λ b.
      let kids = each (visit cells k) (8 * s) 8 (take m ns) in
      let M = meet_children ns k n 8 m in
      let closed = subst (λ xs. Begins xs ns) (visit_more k s (take m ns)) begins in
      let w : M ≤ length ns = children_fit k s n m h low (fits k) 8 (omega arith) (begins_trans kids (turn cells k s kids) ns (turn_begins cells k s kids) closed) in
      let f : kids ≡ take M ns = children_visited k s n m h low (visited k) 8 (omega arith) w in
      let high : M ≤ n = ⊎_elim (λ q. let u = kids_low ns rules.r3 k n m here (omega arith) w n b q in absurd (omega arith)) (λ q. q) (cases_lt n M) in
      let t = turn_next k s n M h high (links_after k s n m h low w) in
      let e = next_is n M inside w (subst (λ xs. Begins xs ns) (ap (turn cells k s) f ∙ t) closed) in
      let r = meet_left ns k n m b ∙ leave_next ns k n M e in
      omega arith)
      (cases_lt n m)

-- ---- the root

first_zero : (k o : ℕ) → first k 0 + o ≡ o
first_zero k o = rw (zero-mul (8 ^ k)) (zero-add o)

-- the root stands for the whole hall
root_at : (L : ℕ) (ns : List Node) (cells : List ℕ) → NodeRules L ns → MarksExactly L ns cells → 0 < length ns → Serves cells ns L 0 (root ns)
root_at L ns cells rules exact some =
    let level = rules.r4 some in
    record {
      there = omega arith;
      level = level;
      tells = λ o b.
          sym (tested (walk ns L (root ns) o) (and_true _ _ (lt-ltb 0 (length ns) some) (eq-eqb (node_at ns (root ns)).level L level)))
          ∙ exact o b ∙ sym (ap (has cells) (first_zero L o));
    }
  where
    and_true : (x y : Bool) → x ≡ true → y ≡ true → (x && y) ≡ true
    and_true x y p q = ap₂ (λ a b. a && b) p q

    tested : {x : Bool} (y : Bool) → x ≡ true → (x && y) ≡ y
    tested y p = ap (λ a. a && y) p

one_counts : (c b n : ℕ) → c < b → cond {A = ℕ} (leb 0 c && ltb c b) 1 0 + n ≡ suc n
one_counts c b n h = grind (arith, nat_tests)

-- all cells are counted below a bound that no cell reaches
pub length_count : (cells : List ℕ) (b : ℕ) → AllByRecursion (λ c. c < b) cells → count cells 0 b ≡ length cells
unfolding count
length_count [] b h = refl
length_count (c ∷ cells) b h = one_counts c b (count cells 0 b) h.0 ∙ ap suc (length_count cells b h.1)

hall_count : (L : ℕ) (cells : List ℕ) → CellSet L cells → count cells (first L 0) (first L 1) ≡ length cells
hall_count L cells set = ap₂ (count cells) (zero-mul (8 ^ L)) (one-mul (8 ^ L)) ∙ length_count cells (8 ^ L) set.inside

none_there : (ns : List Node) → length ns ≤ 0 → ns ≡ []
none_there [] h = refl
none_there (a ∷ ns) h = absurd (omega arith)

-- ---- a list that passes

module _ (K : ℕ) (ns : List Node) (few : Nameable ns) (p : Passes (suc K) ns) where
  abbrev L : ℕ
  L = suc K

  abbrev cells : List ℕ
  cells = marked L ns

  shaped : AllShaped ns
  shaped n h = (p.each n h).shape

  rules : NodeRules L ns
  rules = record { r1 = λ n h. (p.each n h).r1; r2 = λ n h. (p.each n h).r2; r3 = λ n h. (p.each n h).r3; r4 = p.r4 }

  module _ (some : 0 < length ns) where
    root_marked : Serves cells ns L 0 (root ns)
    root_marked = root_at L ns cells rules (marks_marked L ns) some

    seals_some : ns ≡ sealed L cells
    seals_some =
        let e = p.order some in
        sym (sealed_visit L cells
        ∙ visited L ns cells rules few shaped (marked_set L ns).rising (λ n h. (p.each n h).alone) (λ n h. (p.each n h).offsets) L 0 (root ns) 0 root_marked (omega arith) (omega arith)
        ∙ ap (λ m. take m ns) e ∙ take_all (length ns) ns (omega arith))

    counts_some : length cells ≡ cells_under L ns
    unfolding cells_under
    counts_some =
        sym (cond-true (ltb 0 (length ns)) _ _ (lt-ltb 0 (length ns) some)
        ∙ size_is L ns cells rules few shaped (marked_set L ns).rising L 0 (root ns) root_marked
        ∙ hall_count L cells (marked_set L ns))

  module _ (none_in : length ns ≤ 0) where
    free : occupied cells L 0 ≡ false
    free =
        ⊎_elim
        (λ o. let c = occupied_cell cells L 0 o in
        absurd (both_ways (has cells c.0) (sym (marks_marked L ns c.0 c.1) ∙ ap (λ t. t && eqb (node_at ns (root ns)).level L && walk ns L (root ns) c.0) (le-ltb 0 (length ns) none_in))
        (sym (ap (has cells) (first_zero L c.0)) ∙ c.2)))
        (λ o. o)
        (cases_Bool (occupied cells L 0))

    seals_none : ns ≡ sealed L cells
    seals_none = none_there ns none_in ∙ sym (sealed_free L cells free)

    counts_none : length cells ≡ cells_under L ns
    unfolding cells_under
    counts_none =
        sym (hall_count L cells (marked_set L ns)) ∙ count_free cells L 0 free ∙ sym (cond-false (ltb 0 (length ns)) _ _ (le-ltb 0 (length ns) none_in))

  pub passing : Seals L ns × (length cells ≡ cells_under L ns)
  passing =
      ⊎_elim
      (λ b. ((cells, marked_set L ns, seals_some b), counts_some b))
      (λ b. ((cells, marked_set L ns, seals_none b), counts_none b))
      (cases_lt 0 (length ns))

pub passes_seals : PassesSeals
passes_seals zero ns one few p = absurd (omega arith)
passes_seals (suc K) ns one few p = passing K ns few p

-- ---- a sealed list

record_shaped : (cells : List ℕ) (ns : List Node) (k s : ℕ) → Shaped (record_of cells ns k s)
record_shaped cells ns k s = record {
  mask_fits = digits_below 2 (λ i. cond (occupied cells k (8 * s + i)) 1 0) (λ i. cond_both (occupied cells k (8 * s + i)) 1 0 (λ d. d < 2) (λ e. omega arith) (λ e. omega arith)) 8;
  eight_links = refl;
  eight_offsets = refl;
}

module _ (K : ℕ) (ns : List Node) (cells : List ℕ) (few : Nameable ns) (set : CellSet (suc K) cells) (is : ns ≡ sealed (suc K) cells) where
  rules_sealed : NodeRules (suc K) ns
  rules_sealed = subst (NodeRules (suc K)) (sym is) (keeps_rules (suc K) cells (omega arith) (subst Nameable is few))

  distinct_sealed : Distinct ns
  distinct_sealed = subst Distinct (sym is) (sealed_distinct (suc K) cells)

  sourced : Sourced cells (suc K) 0 ns
  sourced = subst (Sourced cells (suc K) 0) (sym is) (sealed_sourced (suc K) cells)

  shaped_sealed : AllShaped ns
  shaped_sealed n h = let c = sourced n h in subst Shaped (sym c.is) (record_shaped cells ns c.j c.t)

  -- every record stands for the sub-cube that it comes from
  origin_at : (n : ℕ) → n < length ns → (c : Origin cells (suc K) 0 ns (node_at ns n)) → Serves cells ns (suc c.j) c.t n
  origin_at n h c =
      let j = c.j in
      let t = c.t in
      record {
        there = h;
        level = ap (λ a. a.level) c.is;
        tells = λ o b.
            let e = in_sub_cube (suc j) t o b in
            sym (walk_inside ns t o (suc j) (suc j) n (omega arith))
            ∙ walk_is cells ns (subst Sound (sym is) (sealed_sound (suc K) cells)) few j n (t * 8 ^ suc j + o) h
            (c.is ∙ ap (record_of cells ns j) (sym e)) (subst (ChildrenKnown cells ns j) (sym e) c.known)
            ∙ sym (has_holds cells (t * 8 ^ suc j + o));
      }

  offsets_sealed : (n : ℕ) → n < length ns → RightOffsets ns n
  offsets_sealed n h k v i l =
      let c = sourced n h in
      let at = origin_at n h c in
      let w = at.level in
      let e : c.j ≡ k = omega arith in
      ap (λ a. offset_of a i) c.is
      ∙ offset_is cells c.j c.t (link_to cells ns c.j) i l
      ∙ ap₂ (λ b x. cond {A = ℕ} b x 0) (sym (child_there (suc K) ns cells rules_sealed few shaped_sealed c.j c.t n i l at))
      (sym (before_is (suc K) ns cells rules_sealed few shaped_sealed set.rising c.j c.t n at i (omega arith)))
      ∙ ap (λ q. cond {A = ℕ} (has_child (node_at ns n) i) (size_before ns q n i) 0) e

  order_sealed : 0 < length ns → meet ns (suc K) (root ns) 0 ≡ length ns
  order_sealed some =
      let exact : MarksExactly (suc K) ns cells = subst (λ ms. MarksExactly (suc K) ms cells) (sym is) (marks_cells (suc K) cells (omega arith) (subst Nameable is few)) in
      let at = root_at (suc K) ns cells rules_sealed exact some in
      let whole : visit cells (suc K) 0 [] ≡ ns = sym (sealed_visit (suc K) cells) ∙ sym is in
      let w = fits (suc K) ns cells rules_sealed few shaped_sealed set.rising distinct_sealed offsets_sealed (suc K) 0 (root ns) 0 at (omega arith) (subst (λ xs. Begins xs ns) (sym whole) (begins_self ns)) in
      let v = visited (suc K) ns cells rules_sealed few shaped_sealed set.rising distinct_sealed offsets_sealed (suc K) 0 (root ns) 0 at (omega arith) w in
      sym (length-take-le (meet ns (suc K) (root ns) 0) ns w) ∙ ap length (sym v ∙ whole)

  pub sealed_passes : Passes (suc K) ns
  sealed_passes = record {
    each = λ n h. record {
      shape = shaped_sealed n h;
      r1 = rules_sealed.r1 n h;
      r2 = rules_sealed.r2 n h;
      r3 = rules_sealed.r3 n h;
      offsets = offsets_sealed n h;
      alone = distinct_sealed n h;
    };
    r4 = rules_sealed.r4;
    order = order_sealed;
  }

pub seals_passes : SealsPasses
seals_passes zero ns one few s = absurd (omega arith)
seals_passes (suc K) ns one few s = sealed_passes K ns s.0 few s.1 s.2
