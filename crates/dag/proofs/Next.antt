-- One more cell: what the list of cells keeps, and the rows from one cell to the next.
use Rattle.std.proofs.Common.{◌≡◌, ℕ, suc, ◌+◌, ◌-◌, ◌*◌, ◌%◌, ◌^◌, ◌<◌, ◌≤◌, true, false, cond, ◌&&◌, ◌||◌, eqb, ltb, leb, ◌≢◌, List, [], ◌∷◌, ◌++◌, sym, refl, ap, ◌∙◌, subst, ap₂, ⊎_elim, add_assoc, zero-add, mul-one, div-one, arith}
use Rattle.std.specs.List.{AllByRecursion}
use Rattle.std.proofs.lemmas.Bool.{eq-eqb, cases_lt, cases_order, or_right}
use Rattle.std.proofs.ByRecursion.{All-push}
use Rattle.std.proofs.lemmas.Bool.Decides.{nat_tests}
use Rattle.cells.specs.SubCubes.{sub_cube}
use Rattle.nodes.specs.Records.{none}
use Rattle.nodes.specs.declared.node.Node.{Node}
use Rattle.dag.specs.Sets.{count, has, Rising, CellSet}
use Rattle.dag.specs.Records.{first, occupied, link_to}
use Rattle.dag.specs.Sealed.{below}
use Rattle.dag.specs.Rows.{row_node, row_count, empty_row, with_child, carry, stage_row, stage_count}
use Rattle.dag.proofs.Counts.{count_wider, count_none}
use Rattle.dag.proofs.Spans.{span_from, sub_cube_le}
use Rattle.dag.proofs.Depends.{push_same, below_push, below_none}
use Rattle.dag.proofs.Carry.{AllUpTo, together_over, parts_under, carrying_to}
use Rattle.dag.proofs.Stages.{own_occupied}
use Rattle.dag.proofs.Rows.{row_none, row_skip, row_depends, row_more, row_past, row_beyond, count_more, count_depends, count_past, count_beyond, child_place_lem, child_small}
use Rattle.dag.proofs.Steps.{row_closed, row_own, row_open, count_closed, count_own, count_open}

-- ---- the list of cells

pub count_append : (cells more : List ℕ) (a b : ℕ) → count (cells ++ more) a b ≡ count cells a b + count more a b
unfolding count
count_append [] more a b = sym (zero-add (count more a b))
count_append (c ∷ cells) more a b =
    ap (λ n. cond {A = ℕ} (leb a c && ltb c b) 1 0 + n) (count_append cells more a b)
    ∙ sym (add_assoc (cond {A = ℕ} (leb a c && ltb c b) 1 0) (count cells a b) (count more a b))

one_past : (c a b : ℕ) → c < a → cond {A = ℕ} (leb a c && ltb c b) 1 0 + 0 ≡ 0
one_past c a b h = grind (arith, nat_tests)

one_here : (c : ℕ) → cond {A = ℕ} (leb c c && ltb c (c + 1)) 1 0 + 0 ≡ 1
one_here c = grind (arith, nat_tests)

-- no cell is above the last
pub all_last : (cells : List ℕ) (m : ℕ) → AllByRecursion (λ d. d ≤ m) cells → AllUpTo cells m
unfolding count
all_last [] m h b = refl
all_last (c ∷ cells) m h b =
    let e = one_past c (m + 1) b (omega (arith, h.0)) in
    let f = all_last cells m h.1 b in
    omega arith

pub last_none : (m : ℕ) → AllUpTo [] m
unfolding count
last_none m b = refl

module _ (cells : List ℕ) (m c : ℕ) (last : AllUpTo cells m) (h : m < c) where
  above_none : (a b : ℕ) → m < a → count cells a b ≡ 0
  above_none a b l =
      ⊎_elim
      (λ q. let w = count_wider cells (m + 1) a b b (omega arith) (omega arith) (omega arith) in
      let z = last b in omega arith)
      (λ q. count_none cells a b q)
      (cases_lt a b)

  pub push_last : AllUpTo (cells ++ c ∷ []) c
  unfolding count
  push_last b =
      let e = count_append cells (c ∷ []) (c + 1) b in
      let f = above_none (c + 1) b (omega arith) in
      let g = one_past c (c + 1) b (omega arith) in
      omega arith

  -- the new cell is one
  pub push_one : count (cells ++ c ∷ []) c (c + 1) ≡ 1
  unfolding count
  push_one =
      let e = count_append cells (c ∷ []) c (c + 1) in
      let f = above_none c (c + 1) h in
      let g = one_here c in
      omega arith

-- the same of a first cell
pub first_last : (c : ℕ) → AllUpTo (c ∷ []) c
unfolding count
first_last c b = one_past c (c + 1) b (omega arith)

pub first_one : (c : ℕ) → count (c ∷ []) c (c + 1) ≡ 1
unfolding count
first_one c = one_here c

pub push_has : (cells : List ℕ) (c : ℕ) → has (cells ++ c ∷ []) c ≡ true
unfolding has
push_has [] c = ap (λ t. t || false) (eq-eqb c c refl)
push_has (d ∷ cells) c = or_right (eqb d c) (has (cells ++ c ∷ []) c) (push_has cells c)

rising_push : (cells : List ℕ) (c : ℕ) → Rising cells → AllByRecursion (λ d. d < c) cells → Rising (cells ++ c ∷ [])
rising_push [] c h l = tt
rising_push (a ∷ []) c h l = (l.0, tt)
rising_push (a ∷ b ∷ cells) c h l = (h.0, rising_push (b ∷ cells) c h.1 l.1)

-- a higher code makes a set of cells again
pub set_push : (L : ℕ) (cells : List ℕ) (c : ℕ) → CellSet L cells → AllByRecursion (λ d. d < c) cells → c < 8 ^ L → CellSet L (cells ++ c ∷ [])
set_push L cells c h l b = record { rising = rising_push cells c h.rising l; inside = All-push (λ d. d < 8 ^ L) cells c h.inside b }

-- ---- the rows

-- the row of level j + 1 in which a new code c lies, before c is in it
abbrev pub RowReady : ℕ → List ℕ → ℕ → ℕ → Node → Type 0
RowReady L cells c j row = row ≡ row_node (cells ++ c ∷ []) (below L (cells ++ c ∷ []) c) j (sub_cube (suc j) c) (sub_cube j c % 8)

abbrev pub CountReady : List ℕ → ℕ → ℕ → ℕ → Type 0
CountReady cells c j n = n ≡ row_count (cells ++ c ∷ []) j (sub_cube (suc j) c) (sub_cube j c % 8)

module _ (L : ℕ) (cells : List ℕ) (c : ℕ) where
  row_end : (j : ℕ) → first j (8 * sub_cube (suc j) c + sub_cube j c % 8) ≤ c
  row_end j = subst (λ s. first j s ≤ c) (sym (child_place_lem j c)) (span_from j c)

  -- the new cell does not show in it
  ready_row : (ns : List Node) (j : ℕ) → below L cells c ≡ ns → RowReady L cells c j (row_node cells ns j (sub_cube (suc j) c) (sub_cube j c % 8))
  ready_row ns j e =
      row_depends cells (cells ++ c ∷ []) ns c j (sub_cube (suc j) c) (sub_cube j c % 8) (push_same cells c c (omega arith)) (row_end j)
      ∙ ap (λ ms. row_node (cells ++ c ∷ []) ms j (sub_cube (suc j) c) (sub_cube j c % 8)) (sym (below_push L cells c c (omega arith) ∙ e))

  ready_count : (j : ℕ) → CountReady cells c j (row_count cells j (sub_cube (suc j) c) (sub_cube j c % 8))
  ready_count j = count_depends cells (cells ++ c ∷ []) c j (sub_cube (suc j) c) (sub_cube j c % 8) (push_same cells c c (omega arith)) (row_end j)

-- at the last stage of the closing the rows are those in which the new code lies
module _ (L : ℕ) (cells : List ℕ) (m c p : ℕ) (last : AllUpTo cells m) (h : m < c) (l : p ≤ L)
    (parted : sub_cube p m ≢ sub_cube p c) (together : p < L → sub_cube (suc p) m ≡ sub_cube (suc p) c) where
  ahead : (k : ℕ) → k ≤ p → sub_cube k m < sub_cube k c
  ahead k b =
      let e : p ≡ k + (p - k) = omega arith in
      let n = parts_under m c k (p - k) (subst (λ j. sub_cube j m ≢ sub_cube j c) e parted) in
      let o = sub_cube_le k m c (omega arith) in
      ⊎_elim (λ q. q) (λ q. absurd (n (omega arith))) (cases_lt (sub_cube k m) (sub_cube k c))

  beside : (k : ℕ) → p < k → k ≤ L → sub_cube k m ≡ sub_cube k c
  beside k a b =
      let e : suc p + (k - suc p) ≡ k = omega arith in
      subst (λ j. sub_cube j m ≡ sub_cube j c) e (together_over m c (suc p) (k - suc p) (together (omega arith)))

  higher_child : p < L → sub_cube p m % 8 < sub_cube p c % 8
  higher_child b =
      let e = together b in
      let f = child_place_lem p m in
      let g = child_place_lem p c in
      let a = ahead p (omega arith) in
      omega arith

  pub rows_ready : (j : ℕ) → j < L → RowReady L cells c j (stage_row cells (carry cells m p (below L cells m)) m p j)
  rows_ready j b =
      let ns : List Node = carry cells m p (below L cells m) in
      ⊎_elim
      (λ q.
      let bp : p < L = omega arith in
      subst (λ i. stage_row cells ns m p i ≡ row_node cells ns i (sub_cube (suc i) c) (sub_cube i c % 8)) (sym q)
      (row_own cells ns m p
      ∙ sym (row_past cells m last ns p (sub_cube p c % 8) (higher_child bp))
      ∙ ap (λ s. row_node cells ns p s (sub_cube p c % 8)) (together bp)))
      (⊎_elim
      (λ q. row_closed cells ns m p j q ∙ sym (row_beyond cells m last ns j (sub_cube (suc j) c) (sub_cube j c % 8) (ahead (suc j) (omega arith))))
      (λ q. row_open cells ns m p j q
      ∙ ap₂ (λ s t. row_node cells ns j s (t % 8)) (beside (suc j) (omega arith) (omega arith)) (beside j q (omega arith))))
      (cases_order j p)
      ∙ ready_row L cells c ns j (carrying_to L cells m c p last h l parted together)

  pub counts_ready : (j : ℕ) → j < L → CountReady cells c j (stage_count cells m p j)
  counts_ready j b =
      ⊎_elim
      (λ q.
      let bp : p < L = omega arith in
      subst (λ i. stage_count cells m p i ≡ row_count cells i (sub_cube (suc i) c) (sub_cube i c % 8)) (sym q)
      (count_own cells m p
      ∙ sym (count_past cells m last p (sub_cube p c % 8) (higher_child bp))
      ∙ ap (λ s. row_count cells p s (sub_cube p c % 8)) (together bp)))
      (⊎_elim
      (λ q. count_closed cells m p j q ∙ sym (count_beyond cells m last j (sub_cube (suc j) c) (sub_cube j c % 8) (ahead (suc j) (omega arith))))
      (λ q. count_open cells m p j q
      ∙ ap₂ (λ s t. row_count cells j s (t % 8)) (beside (suc j) (omega arith) (omega arith)) (beside j q (omega arith))))
      (cases_order j p)
      ∙ ready_count L cells c j

-- before the first cell they are empty
module _ (L c : ℕ) where
  no_cell : (a b : ℕ) → count [] a b ≡ 0
  unfolding count
  no_cell a b = refl

  pub rows_start : (j : ℕ) → RowReady L [] c j (empty_row j)
  rows_start j =
      sym (row_none [] [] j (sub_cube (suc j) c))
      ∙ sym (row_skip [] [] j (sub_cube (suc j) c) 0 (sub_cube j c % 8) (omega arith)
      (λ i l a b. ap (ltb 0) (no_cell (first j (8 * sub_cube (suc j) c + i)) (first j (8 * sub_cube (suc j) c + i + 1)))))
      ∙ ready_row L [] c [] j (below_none L c)

  pub counts_start : (j : ℕ) → CountReady [] c j 0
  counts_start j = start j ∙ ready_count L [] c j
    where
      start : (j : ℕ) → 0 ≡ row_count [] j (sub_cube (suc j) c) (sub_cube j c % 8)
      start j = unfold row_count count in refl

-- with the new cell they are the rows of stage 0
module _ (L : ℕ) (cells : List ℕ) (c : ℕ) (single : count (cells ++ c ∷ []) c (c + 1) ≡ 1) where
  pub place_own : (row : Node) (n : ℕ) → RowReady L cells c 0 row → CountReady cells c 0 n
      → stage_row (cells ++ c ∷ []) (below L (cells ++ c ∷ []) c) c 0 0 ≡ with_child row (c % 8) none n
  unfolding link_to
  place_own row n e f =
      let o : occupied (cells ++ c ∷ []) 0 (8 * sub_cube 1 c + sub_cube 0 c % 8) ≡ true =
      subst (λ s. occupied (cells ++ c ∷ []) 0 s ≡ true) (sym (child_place_lem 0 c)) (own_occupied (cells ++ c ∷ []) c 0 (push_has cells c)) in
      let i : sub_cube 0 c % 8 ≡ c % 8 = ap (λ s. s % 8) (div-one c) in
      row_own (cells ++ c ∷ []) (below L (cells ++ c ∷ []) c) c 0
      ∙ row_more (cells ++ c ∷ []) (below L (cells ++ c ∷ []) c) 0 (sub_cube 1 c) (sub_cube 0 c % 8) (child_small 0 c) o
      ∙ ap₂ (λ a b. with_child a (sub_cube 0 c % 8) none b) (sym e) (sym f)
      ∙ ap (λ t. with_child row t none n) i

  pub place_sum : (n : ℕ) → CountReady cells c 0 n → stage_count (cells ++ c ∷ []) c 0 0 ≡ n + 1
  place_sum n f =
      let z : 8 * sub_cube 1 c + sub_cube 0 c % 8 ≡ c = child_place_lem 0 c ∙ div-one c in
      count_own (cells ++ c ∷ []) c 0
      ∙ count_more (cells ++ c ∷ []) 0 (sub_cube 1 c) (sub_cube 0 c % 8)
      ∙ ap₂ (λ a b. a + b) (sym f)
      (ap (λ s. count (cells ++ c ∷ []) (first 0 s) (first 0 (s + 1))) z
      ∙ ap₂ (count (cells ++ c ∷ [])) (mul-one c) (mul-one (c + 1))
      ∙ single)

  pub place_others : (j : ℕ) (row : Node) → 0 < j → RowReady L cells c j row → stage_row (cells ++ c ∷ []) (below L (cells ++ c ∷ []) c) c 0 j ≡ row
  place_others j row h e = row_open (cells ++ c ∷ []) (below L (cells ++ c ∷ []) c) c 0 j h ∙ sym e

  pub place_sums : (j n : ℕ) → 0 < j → CountReady cells c j n → stage_count (cells ++ c ∷ []) c 0 j ≡ n
  place_sums j n h f = count_open (cells ++ c ∷ []) c 0 j h ∙ sym f
