-- In a list that keeps the rules, the number of cells under a record that stands for a sub-cube is the number of the sub-cube's cells.
use Rattle.std.proofs.Common.{◌≡◌, ℕ, zero, suc, ◌+◌, ◌*◌, ◌/◌, ◌^◌, ◌<◌, ◌≤◌, Bool, true, false, cond, not, ◌&&◌, List, [], length, sym, refl, ap, ◌∙◌, subst, ap₂, ⊎_elim, mod-lt, mod-eq_of_lt, zero-mul, mul-one, arith}
use Rattle.std.proofs.lemmas.Bool.{cases_lt, cases_Bool, and_from, and_parts, lt-ltb, eqb-true, eq-eqb, ne_eqb, both_ways, cond-true, cond-false}
use Rattle.cells.specs.Hall.{bit, from_digits}
use Rattle.cells.proofs.Digits.{digits_of}
use Rattle.nodes.specs.Records.{none}
use Rattle.nodes.specs.declared.node.Node.{Node}
use Rattle.dag.specs.Sets.{Rising, count, has}
use Rattle.dag.specs.Rules.{node_at, link_of, NodeRules}
use Rattle.dag.specs.Walk.{leads, walk}
use Rattle.dag.specs.Records.{first, occupied}
use Rattle.dag.specs.Laws.{Nameable}
use Rattle.dag.specs.Sizes.{has_child, sum_to, size, size_before}
use Rattle.dag.specs.Judged.{Shaped}
use Rattle.dag.proofs.Counts.{count_split, count_none}
use Rattle.dag.proofs.Visits.{times_eight}
use Rattle.dag.proofs.Spans.{first_le, first_next}
use Rattle.dag.proofs.Empty.{count_free}
use Rattle.dag.proofs.Contents.{child_code, child_inside, count_one, occupied_cell, cell_occupied, free_cell}
use Rattle.dag.proofs.Fewest.{Serves, walk_child, child_served}

-- ---- a mask that is not 0 has a bit

some_digit : (d : ℕ → ℕ) → ((j : ℕ) → d j < 2) → (n : ℕ) → 0 < from_digits 2 d n → (i : ℕ) × (i < n) × (d i ≡ 1)
unfolding from_digits
some_digit d small zero h = absurd (omega arith)
some_digit d small (suc n) h =
    let l = small n in
    ⊎_elim
    (λ z. let e : d n ≡ 0 = omega arith in
    let f : d n * 2 ^ n ≡ 0 = ap (λ x. x * 2 ^ n) e ∙ zero-mul (2 ^ n) in
    let r = some_digit d small n (omega arith) in (r.0, omega (arith, r.1), r.2))
    (λ z. (n, omega arith, omega arith))
    (cases_lt (d n) 1)

pub some_bit : (mask : ℕ) → mask < 256 → 0 < mask → (i : ℕ) × (i < 8) × (bit i mask ≡ 1)
some_bit mask l h =
    let e : from_digits 2 (λ j. bit j mask) 8 ≡ mask = digits_of 2 mask 8 (omega arith) ∙ mod-eq_of_lt l in
    some_digit (λ j. bit j mask) (λ j. mod-lt (mask / 2 ^ j) (omega arith)) 8 (subst (λ n. 0 < n) (sym e) h)

pub has_from_bit : (a : Node) (i : ℕ) (t : Bool) → bit i a.mask ≡ cond {A = ℕ} t 1 0 → has_child a i ≡ t
has_from_bit a i true e = eq-eqb _ 1 e
has_from_bit a i false e = ne_eqb _ 1 (λ f. absurd (omega arith))

-- every record has eight children
abbrev pub AllShaped : List Node → Type 0
AllShaped ns = (n : ℕ) → n < length ns → Shaped (node_at ns n)

-- ---- what the rules give

module _ (L : ℕ) (ns : List Node) (rules : NodeRules L ns) (few : Nameable ns) where
  pub leads_set : (k n i : ℕ) → n < length ns → (node_at ns n).level ≡ suc k → i < 8 → bit i (node_at ns n).mask ≡ 1
      → leads ns n k (link_of (node_at ns n) i) ≡ true
  leads_set zero n i h v l b = refl
  leads_set (suc k) n i h v l b =
      let r = (rules.r3 n h (omega arith) i l).2 b in
      let low = r.0 in
      and_from _ _ (and_from _ _ (ap not (ne_eqb _ none (λ z. absurd (omega arith)))) (lt-ltb _ n r.0)) (eq-eqb _ (suc k) (omega (arith, r.1)))

  module _ (shaped : AllShaped ns) where
    -- under every record some code is marked
    pub some_marked : (k n : ℕ) → n < length ns → (node_at ns n).level ≡ suc k → (o : ℕ) × (o < 8 ^ suc k) × (walk ns (suc k) n o ≡ true)
    some_marked zero n h v =
        let b = some_bit (node_at ns n).mask (shaped n h).mask_fits (rules.r1 n h).2 in (
          b.0 * 8 ^ 0 + 0,
          child_inside 0 b.0 0 b.1 (omega arith),
          walk_child [] ns 0 n b.0 0 b.1 (omega arith) ∙ and_from _ _ (and_from _ _ (eq-eqb _ 1 b.2) refl) (arrived (link_of (node_at ns n) b.0)),
        )
      where
        arrived : (m : ℕ) → walk ns 0 m 0 ≡ true
        arrived m = unfold walk in refl
    some_marked (suc k) n h v =
        let b = some_bit (node_at ns n).mask (shaped n h).mask_fits (rules.r1 n h).2 in
        let r = (rules.r3 n h (omega arith) b.0 b.1).2 b.2 in
        let q = some_marked k (link_of (node_at ns n) b.0) (omega (arith, r.0)) (omega (arith, r.1)) in (
          b.0 * 8 ^ suc k + q.0,
          child_inside (suc k) b.0 q.0 b.1 q.1,
          walk_child [] ns (suc k) n b.0 q.0 b.1 q.1 ∙ and_from _ _ (and_from _ _ (eq-eqb _ 1 b.2) (leads_set (suc k) n b.0 h v b.1 b.2)) q.2,
        )

-- ---- records that stand for sub-cubes

-- record n stands for sub-cube s of level k; on level 0 the cell s is one of the cells
abbrev pub At : List ℕ → List Node → ℕ → ℕ → ℕ → Type 0
At cells ns zero s n = occupied cells 0 s ≡ true
At cells ns (suc k) s n = Serves cells ns (suc k) s n

pub child_at : (cells : List ℕ) (ns : List Node) (k s n i : ℕ) → i < 8 → Serves cells ns (suc k) s n → occupied cells k (8 * s + i) ≡ true
    → At cells ns k (8 * s + i) (link_of (node_at ns n) i)
child_at cells ns zero s n i l h o = o
child_at cells ns (suc k) s n i l h o = child_served cells ns k s n i l h o

module _ (L : ℕ) (ns : List Node) (cells : List ℕ) (rules : NodeRules L ns) (few : Nameable ns) (shaped : AllShaped ns) where
  -- the walk to a code of child i tells whether it is a cell
  child_tells : (k s n i o : ℕ) → i < 8 → o < 8 ^ k → Serves cells ns (suc k) s n
      → (has_child (node_at ns n) i && leads ns n k (link_of (node_at ns n) i) && walk ns k (link_of (node_at ns n) i) o) ≡ has cells (first k (8 * s + i) + o)
  child_tells k s n i o l b h =
      sym (walk_child [] ns k n i o l b) ∙ h.tells (i * 8 ^ k + o) (child_inside k i o l b) ∙ sym (ap (has cells) (child_code k s i o))

  -- under child i that is there some code is marked
  some_below : (k n i : ℕ) → i < 8 → n < length ns → (node_at ns n).level ≡ suc k → bit i (node_at ns n).mask ≡ 1
      → (o : ℕ) × (o < 8 ^ k) × (walk ns k (link_of (node_at ns n) i) o ≡ true)
  some_below zero n i l h v b = (0, omega arith, unfold walk in refl)
  some_below (suc k) n i l h v b =
      let r = (rules.r3 n h (omega arith) i l).2 b in
      some_marked L ns rules few shaped k (link_of (node_at ns n) i) (omega (arith, r.0)) (omega (arith, r.1))

  -- a record that stands for a sub-cube has exactly the children that hold a cell
  pub child_there : (k s n i : ℕ) → i < 8 → Serves cells ns (suc k) s n → has_child (node_at ns n) i ≡ occupied cells k (8 * s + i)
  child_there k s n i l h =
      ⊎_elim
      (λ o. let c = occupied_cell cells k (8 * s + i) o in
      let p = and_parts _ _ (child_tells k s n i c.0 l c.1 h ∙ c.2) in
      (and_parts _ _ p.0).0 ∙ sym o)
      (λ o. ⊎_elim
      (λ t. let b = eqb-true (bit i (node_at ns n).mask) 1 t in
      let q = some_below k n i l h.there h.level b in
      absurd (both_ways (has cells (first k (8 * s + i) + q.0)) (free_cell cells k (8 * s + i) o q.0 q.1)
      (sym (child_tells k s n i q.0 l q.1 h) ∙ and_from _ _ (and_from _ _ t (leads_set L ns rules few k n i h.there h.level l b)) q.2)))
      (λ t. t ∙ sym o)
      (cases_Bool (has_child (node_at ns n) i)))
      (cases_Bool (occupied cells k (8 * s + i)))

  -- ---- counting

  one_child : (k s n i : ℕ) → i < 8 → Serves cells ns (suc k) s n
      → (occupied cells k (8 * s + i) ≡ true → size ns k (link_of (node_at ns n) i) ≡ count cells (first k (8 * s + i)) (first k (8 * s + i + 1)))
      → cond (has_child (node_at ns n) i) (size ns k (link_of (node_at ns n) i)) 0 ≡ count cells (first k (8 * s + i)) (first k (8 * s + i + 1))
  one_child k s n i l h rest =
      let e = child_there k s n i l h in
      ⊎_elim
      (λ o. cond-true (has_child (node_at ns n) i) _ _ (e ∙ o) ∙ rest o)
      (λ o. cond-false (has_child (node_at ns n) i) _ _ (e ∙ o) ∙ sym (count_free cells k (8 * s + i) o))
      (cases_Bool (occupied cells k (8 * s + i)))

  before_from : (k s n : ℕ) → Serves cells ns (suc k) s n
      → ((i : ℕ) → i < 8 → occupied cells k (8 * s + i) ≡ true → size ns k (link_of (node_at ns n) i) ≡ count cells (first k (8 * s + i)) (first k (8 * s + i + 1)))
      → (i : ℕ) → i ≤ 8 → size_before ns k n i ≡ count cells (first k (8 * s)) (first k (8 * s + i))
  unfolding sum_to
  before_from k s n h rest zero l = sym (count_none cells (first k (8 * s)) (first k (8 * s + 0)) (first_le k (8 * s + 0) (8 * s) (omega arith)))
  before_from k s n h rest (suc i) l =
      let e : 8 * s + suc i ≡ 8 * s + i + 1 = omega arith in
      ap₂ (λ a b. a + b) (before_from k s n h rest i (omega arith)) (one_child k s n i l h (rest i l))
      ∙ sym (count_split cells (first k (8 * s)) (first k (8 * s + i)) (first k (8 * s + i + 1)) (first_le k (8 * s) (8 * s + i) (omega arith)) (first_le k (8 * s + i) (8 * s + i + 1) (omega arith)))
      ∙ ap (λ t. count cells (first k (8 * s)) (first k t)) (sym e)

  module _ (rising : Rising cells) where
    pub size_is : (k s n : ℕ) → At cells ns k s n → size ns k n ≡ count cells (first k s) (first k (s + 1))
    unfolding size
    size_is zero s n h =
        sym (ap₂ (count cells) (mul-one s) (mul-one (s + 1)) ∙ count_one cells s rising ∙ ap (λ t. cond {A = ℕ} t 1 0) (sym (cell_occupied cells s) ∙ h))
    size_is (suc k) s n h =
        before_from k s n h (λ i l o. size_is k (8 * s + i) (link_of (node_at ns n) i) (child_at cells ns k s n i l h o)) 8 (omega arith)
        ∙ ap₂ (count cells) (sym (times_eight k s)) (sym (first_next k s))

    -- the cells under the children before child i
    pub before_is : (k s n : ℕ) → Serves cells ns (suc k) s n → (i : ℕ) → i ≤ 8 → size_before ns k n i ≡ count cells (first k (8 * s)) (first k (8 * s + i))
    before_is k s n h = before_from k s n h (λ i l o. size_is k (8 * s + i) (link_of (node_at ns n) i) (child_at cells ns k s n i l h o))
