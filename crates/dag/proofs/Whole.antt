-- What holds of a list that visits have built, and of the sealed list.
use Rattle.std.proofs.Common.{◌≡◌, ℕ, zero, suc, ◌+◌, ◌*◌, ◌<◌, ◌≤◌, true, false, List, [], ◌∷◌, ◌++◌, length, sym, refl, ap, ◌∙◌, subst, ⊎_elim, arith}
use Rattle.std.proofs.lemmas.Bool.{cond_both, cond-true, cond-false, cases_lt, le-ltb, ltb-false}
use Rattle.std.proofs.lemmas.List.{length_push, get_or_push, get_or_append_left}
use Rattle.nodes.specs.Records.{blank}
use Rattle.nodes.specs.declared.node.Node.{Node}
use Rattle.dag.specs.Rules.{node_at}
use Rattle.dag.specs.Walk.{root}
use Rattle.dag.specs.Records.{lowest, occupied, record_of}
use Rattle.dag.specs.Sealed.{there, written, turn, sealed}
use Rattle.dag.proofs.Lowest.{lowest_at, lowest_stays, lowest_new}
use Rattle.dag.proofs.Visits.{each, visit, sealed_visit}
use Rattle.dag.proofs.Known.{Known, ChildrenKnown, visit_known, each_known, record_stays}
use Rattle.dag.proofs.Empty.{visit_free}
use Rattle.dag.proofs.Sound.{Sound, sound_none, sound_push, record_fits}

-- ---- one rule for what every written record keeps true

-- a property of lists that stays true when the record of an occupied sub-cube of a level up to `top` is written behind them,
-- where its children are known and no equal record is there
abbrev pub Kept : List ℕ → ℕ → (List Node → Type 0) → Type 0
Kept cells top P = (k s : ℕ) (ns : List Node) → k < top → ChildrenKnown cells ns k s → occupied cells (suc k) s ≡ true
    → length ns ≤ lowest ns (record_of cells ns k s) → P ns → P (ns ++ record_of cells ns k s ∷ [])

module _ (cells : List ℕ) (top : ℕ) (P : List Node → Type 0) (step : Kept cells top P) where
  turn_keeps : (k s : ℕ) (ns : List Node) → k < top → ChildrenKnown cells ns k s → P ns → P (turn cells k s ns)
  unfolding turn
  turn_keeps k s ns l kids p =
      cond_both (occupied cells (suc k) s) (written ns (record_of cells ns k s)) ns P
      (λ o. cond_both (there ns (record_of cells ns k s)) ns (ns ++ record_of cells ns k s ∷ []) P (λ e. p)
      (λ e. step k s ns l kids o (ltb-false (lowest ns (record_of cells ns k s)) (length ns) e) p))
      (λ o. p)

  each_keeps : (f : ℕ → List Node → List Node) → ((s : ℕ) (ns : List Node) → P ns → P (f s ns)) → (s n : ℕ) (ns : List Node) → P ns → P (each f s n ns)
  unfolding each
  each_keeps f h s zero ns p = p
  each_keeps f h s (suc n) ns p = h (s + n) (each f s n ns) (each_keeps f h s n ns p)

  pub visit_keeps : (k s : ℕ) (ns : List Node) → k ≤ top → P ns → P (visit cells k s ns)
  unfolding visit
  visit_keeps zero s ns l p = p
  visit_keeps (suc k) s ns l p =
      turn_keeps k s (each (visit cells k) (8 * s) 8 ns) (omega arith) (each_known cells k (8 * s) 8 ns (visit_known cells k))
      (each_keeps (visit cells k) (λ t ms q. visit_keeps k t ms (omega arith) q) (8 * s) 8 ns p)

  pub children_keep : (k s : ℕ) (ns : List Node) → k ≤ top → P ns → P (each (visit cells k) (8 * s) 8 ns)
  children_keep k s ns l p = each_keeps (visit cells k) (λ t ms q. visit_keeps k t ms l q) (8 * s) 8 ns p

-- ---- three properties

-- each record is the lowest that equals it
abbrev pub Distinct : List Node → Type 0
Distinct ns = (n : ℕ) → n < length ns → lowest ns (node_at ns n) ≡ n

-- no record has a level above the given one
abbrev pub UpTo : ℕ → List Node → Type 0
UpTo top ns = (n : ℕ) → n < length ns → (node_at ns n).level ≤ top

sound_kept : (cells : List ℕ) (top : ℕ) → Kept cells top Sound
sound_kept cells top k s ns l kids o new p = sound_push ns (record_of cells ns k s) p (record_fits cells ns s k kids o)

-- what holds of each record and of the one behind them
pushed : (ns : List Node) (a : Node) (Q : ℕ → Node → Type 0) → ((n : ℕ) → n < length ns → Q n (node_at ns n)) → Q (length ns) a
    → (n : ℕ) → n < length (ns ++ a ∷ []) → Q n (node_at (ns ++ a ∷ []) n)
pushed ns a Q all this n h =
    let l = length_push ns a in
    ⊎_elim
    (λ b. subst (Q n) (sym (get_or_append_left ns (a ∷ []) blank n b)) (all n b))
    (λ b. let e : length ns ≡ n = omega arith in
    subst (λ m. Q m (node_at (ns ++ a ∷ []) m)) e (subst (Q (length ns)) (sym (get_or_push ns a blank (length ns) refl)) this))
    (cases_lt n (length ns))

distinct_kept : (cells : List ℕ) (top : ℕ) → Kept cells top Distinct
distinct_kept cells top k s ns l kids o new p =
    pushed ns a (λ n b. lowest (ns ++ a ∷ []) b ≡ n)
    (λ n h. let e = p n h in lowest_stays ns (a ∷ []) (node_at ns n) (rw e h) ∙ e)
    (lowest_new ns a new)
  where
    a : Node
    a = record_of cells ns k s

levels_kept : (cells : List ℕ) (top : ℕ) → Kept cells top (UpTo top)
levels_kept cells top k s ns l kids o new p = pushed ns (record_of cells ns k s) (λ n b. b.level ≤ top) p (omega arith)

-- ---- the sealed list

module _ (L : ℕ) (cells : List ℕ) where
  pub sealed_sound : Sound (sealed L cells)
  sealed_sound = subst Sound (sym (sealed_visit L cells)) (visit_keeps cells L Sound (sound_kept cells L) L 0 [] (omega arith) sound_none)

  pub sealed_distinct : Distinct (sealed L cells)
  sealed_distinct =
      subst Distinct (sym (sealed_visit L cells)) (visit_keeps cells L Distinct (distinct_kept cells L) L 0 [] (omega arith) (λ n h. absurd (omega arith)))

  pub sealed_levels : UpTo L (sealed L cells)
  sealed_levels =
      subst (UpTo L) (sym (sealed_visit L cells)) (visit_keeps cells L (UpTo L) (levels_kept cells L) L 0 [] (omega arith) (λ n h. absurd (omega arith)))

  pub sealed_free : occupied cells L 0 ≡ false → sealed L cells ≡ []
  sealed_free o = sealed_visit L cells ∙ visit_free cells L 0 [] o

  pub sealed_known : occupied cells L 0 ≡ true → Known cells (sealed L cells) L 0
  sealed_known o = subst (λ ns. Known cells ns L 0) (sym (sealed_visit L cells)) (visit_known cells L 0 [] o)

-- the root: the last record is that of the whole hall
module _ (K : ℕ) (cells : List ℕ) (o : occupied cells (suc K) 0 ≡ true) where
  inner : List Node
  inner = each (visit cells K) (8 * 0) 8 []

  inner_levels : UpTo K inner
  unfolding inner
  inner_levels = children_keep cells K (UpTo K) (levels_kept cells K) K 0 [] (omega arith) (λ n h. absurd (omega arith))

  inner_known : ChildrenKnown cells inner K 0
  unfolding inner
  inner_known = each_known cells K (8 * 0) 8 [] (visit_known cells K)

  root_new : length inner ≤ lowest inner (record_of cells inner K 0)
  root_new =
      ⊎_elim
      (λ l. let e = ap (λ a. a.level) (lowest_at inner (record_of cells inner K 0) l) in
      let u = inner_levels (lowest inner (record_of cells inner K 0)) l in absurd (omega arith))
      (λ l. l)
      (cases_lt (lowest inner (record_of cells inner K 0)) (length inner))

  sealed_is : sealed (suc K) cells ≡ inner ++ record_of cells inner K 0 ∷ []
  unfolding inner visit turn
  sealed_is =
      sealed_visit (suc K) cells
      ∙ cond-true (occupied cells (suc K) 0) _ _ o
      ∙ cond-false (there inner (record_of cells inner K 0)) _ _ (le-ltb _ _ root_new)

  root_number : root (sealed (suc K) cells) ≡ length inner
  root_number = ap root sealed_is ∙ omega (arith, length_push inner (record_of cells inner K 0))

  pub root_inside : root (sealed (suc K) cells) < length (sealed (suc K) cells)
  root_inside =
      let e = ap length sealed_is in
      let f = length_push inner (record_of cells inner K 0) in
      omega arith

  pub root_node : node_at (sealed (suc K) cells) (root (sealed (suc K) cells)) ≡ record_of cells (sealed (suc K) cells) K 0
  root_node =
      ap (λ n. node_at (sealed (suc K) cells) n) root_number
      ∙ ap (λ ns. node_at ns (length inner)) sealed_is
      ∙ get_or_push inner (record_of cells inner K 0) blank (length inner) refl
      ∙ sym (record_stays cells inner (sealed (suc K) cells) (record_of cells inner K 0 ∷ [], sealed_is) K 0 inner_known)
