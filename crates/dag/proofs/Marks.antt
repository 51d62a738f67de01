-- What a walk through known records finds, and the rank it adds up.
use Rattle.std.proofs.Common.{◌≡◌, ℕ, zero, suc, ◌+◌, ◌-◌, ◌*◌, ◌/◌, ◌%◌, ◌^◌, ◌<◌, ◌≤◌, true, false, cond, not, List, length, sym, refl, ap, ◌∙◌, subst, ap₂, ⊎_elim, add-zero, mod-lt, pow-suc, mul-one, div-one, arith}
use native.Mathlib.Nat.{div-div-eq-div-mul}
use Rattle.std.proofs.lemmas.Bool.{cond-true, cases_Bool, lt-ltb, le-ltb, ltb-true, ltb-false, eq-eqb, ne_eqb, and_from, and_left, and_right}
use Rattle.cells.specs.Hall.{bit}
use Rattle.cells.specs.SubCubes.{sub_cube, child}
use Rattle.nodes.specs.Records.{none}
use Rattle.nodes.specs.declared.node.Node.{Node}
use Rattle.dag.specs.Sets.{count, holds}
use Rattle.dag.specs.Rules.{node_at, link_of, offset_of}
use Rattle.dag.specs.Walk.{leads, walk, path, total}
use Rattle.dag.specs.Records.{first, occupied, link_to, record_of}
use Rattle.dag.proofs.Counts.{count_split, count_wider}
use Rattle.dag.proofs.Spans.{span_from, span_to}
use Rattle.dag.proofs.Known.{Known, ChildrenKnown}
use Rattle.dag.proofs.Parts.{mask_bit, link_is, offset_is, first_more}
use Rattle.dag.proofs.Sound.{Sound, link_node}
use Rattle.dag.proofs.Visits.{times_eight}

-- ---- a code in its sub-cubes

pub child_is : (k c : ℕ) → child (suc k) c ≡ c / 8 ^ k % 8
child_is k c = ap (λ j. c / 8 ^ j % 8) (omega arith)

pub child_below : (k c : ℕ) → child (suc k) c < 8
child_below k c = mod-lt (c / 8 ^ (suc k - 1)) (omega arith)

-- the sub-cube of level k is that child of the sub-cube of level k + 1
pub child_step : (k c : ℕ) → 8 * sub_cube (suc k) c + child (suc k) c ≡ sub_cube k c
child_step k c =
    let e : c / 8 ^ suc k ≡ c / 8 ^ k / 8 = ap (λ p. c / p) (pow-suc 8 k) ∙ sym (div-div-eq-div-mul c (8 ^ k) 8) in
    rw (e, child_is k c) (omega arith)

pub cell_cube : (c : ℕ) → sub_cube 0 c ≡ c
cell_cube c = div-one c

-- in a sub-cube without cells no code is a cell
pub free_code : (cells : List ℕ) (k c : ℕ) → occupied cells k (sub_cube k c) ≡ false → holds cells c (c + 1) ≡ false
free_code cells k c o =
    let w = count_wider cells (first k (sub_cube k c)) c (c + 1) (first k (sub_cube k c + 1)) (span_from k c) (omega arith) (omega (arith, span_to k c)) in
    let z = ltb-false 0 (count cells (first k (sub_cube k c)) (first k (sub_cube k c + 1))) o in
    le-ltb 0 (count cells c (c + 1)) (omega arith)

-- the sub-cube of a cell holds a cell
pub occupied_code : (cells : List ℕ) (k c : ℕ) → holds cells c (c + 1) ≡ true → occupied cells k (sub_cube k c) ≡ true
occupied_code cells k c o =
    let w = count_wider cells (first k (sub_cube k c)) c (c + 1) (first k (sub_cube k c + 1)) (span_from k c) (omega arith) (omega (arith, span_to k c)) in
    let z = ltb-true 0 (count cells c (c + 1)) o in
    lt-ltb 0 (count cells (first k (sub_cube k c)) (first k (sub_cube k c + 1))) (omega arith)

-- on level 0 a sub-cube is one cell
occupied_cell : (cells : List ℕ) (c : ℕ) → occupied cells 0 (sub_cube 0 c) ≡ holds cells c (c + 1)
occupied_cell cells c =
    rw (cell_cube c, mul-one c, mul-one (c + 1)) refl

-- ---- one step of a walk

pub walk_shut : (ns : List Node) (k n c : ℕ) → bit (child (suc k) c) (node_at ns n).mask ≡ 0 → walk ns (suc k) n c ≡ false
unfolding walk
walk_shut ns k n c e = rw e refl

-- a link that does not lead on is free
pub walk_stray : (ns : List Node) (k n c : ℕ) → leads ns n k (link_of (node_at ns n) (child (suc k) c)) ≡ false → walk ns (suc k) n c ≡ false
unfolding walk
walk_stray ns k n c l = rw l (and_left _ _ (and_right _ _ refl))

pub walk_on : (ns : List Node) (k n c : ℕ) → bit (child (suc k) c) (node_at ns n).mask ≡ 1
    → leads ns n k (link_of (node_at ns n) (child (suc k) c)) ≡ true
    → walk ns (suc k) n c ≡ walk ns k (link_of (node_at ns n) (child (suc k) c)) c
unfolding walk
walk_on ns k n c e l = rw (e, l) refl

module _ (cells : List ℕ) (ns : List Node) where
  -- what is known at record n of level k + 1 on the walk to a code: its bit, and the child that the bit stands for
  module _ (k n c : ℕ) (here : node_at ns n ≡ record_of cells ns k (sub_cube (suc k) c)) where
    bit_here : bit (child (suc k) c) (node_at ns n).mask ≡ cond {A = ℕ} (occupied cells k (sub_cube k c)) 1 0
    bit_here =
        ap (λ a. bit (child (suc k) c) a.mask) here
        ∙ mask_bit cells k (sub_cube (suc k) c) (link_to cells ns k) (child (suc k) c) (child_below k c)
        ∙ ap (λ u. cond {A = ℕ} (occupied cells k u) 1 0) (child_step k c)

    link_here : occupied cells k (sub_cube k c) ≡ true → link_of (node_at ns n) (child (suc k) c) ≡ link_to cells ns k (sub_cube k c)
    link_here o =
        ap (λ a. link_of a (child (suc k) c)) here
        ∙ link_is cells k (sub_cube (suc k) c) (link_to cells ns k) (child (suc k) c) (child_below k c)
        ∙ ap (λ u. cond (occupied cells k u) (link_to cells ns k u) none) (child_step k c)
        ∙ cond-true (occupied cells k (sub_cube k c)) _ _ o

    offset_here : occupied cells k (sub_cube k c) ≡ true
        → offset_of (node_at ns n) (child (suc k) c) ≡ count cells (first (suc k) (sub_cube (suc k) c)) (first k (sub_cube k c))
    offset_here o =
        ap (λ a. offset_of a (child (suc k) c)) here
        ∙ offset_is cells k (sub_cube (suc k) c) (link_to cells ns k) (child (suc k) c) (child_below k c)
        ∙ ap (λ u. cond {A = ℕ} (occupied cells k u) (count cells (first k (8 * sub_cube (suc k) c)) (first k u)) 0) (child_step k c)
        ∙ cond-true (occupied cells k (sub_cube k c)) _ _ o
        ∙ ap (λ a. count cells a (first k (sub_cube k c))) (sym (times_eight k (sub_cube (suc k) c)))

    child_known : ChildrenKnown cells ns k (sub_cube (suc k) c) → occupied cells k (sub_cube k c) ≡ true → Known cells ns k (sub_cube k c)
    child_known kids o =
        subst (Known cells ns k) (child_step k c)
        (kids (child (suc k) c) (child_below k c) (subst (λ u. occupied cells k u ≡ true) (sym (child_step k c)) o))

  pub path_more : (k n c : ℕ) → total (path ns (suc k) n c) ≡ offset_of (node_at ns n) (child (suc k) c) + total (path ns k (link_of (node_at ns n) (child (suc k) c)) c)
  unfolding path
  path_more k n c = refl

  pub path_none : (m c : ℕ) → total (path ns 0 m c) ≡ 0
  unfolding path
  path_none m c = refl

  -- the offsets on the path to a cell add up to the number of cells before it in the sub-cube
  pub rank_is : (k n c : ℕ) → node_at ns n ≡ record_of cells ns k (sub_cube (suc k) c) → ChildrenKnown cells ns k (sub_cube (suc k) c)
      → holds cells c (c + 1) ≡ true → total (path ns (suc k) n c) ≡ count cells (first (suc k) (sub_cube (suc k) c)) c
  rank_is zero n c here kids o =
      path_more zero n c
      ∙ ap₂ (λ a b. a + b) (offset_here zero n c here (occupied_code cells zero c o)) (path_none (link_of (node_at ns n) (child 1 c)) c)
      ∙ add-zero _
      ∙ ap (count cells (first 1 (sub_cube 1 c))) (ap (λ u. u * 1) (cell_cube c) ∙ mul-one c)
  rank_is (suc k) n c here kids o =
      let q = occupied_code cells (suc k) c o in
      let known = child_known (suc k) n c here kids q in
      let s = sub_cube (suc (suc k)) c in
      let low : first (suc (suc k)) s ≤ first (suc k) (sub_cube (suc k) c) =
      rw (times_eight (suc k) s, ← child_step (suc k) c) (first_more (suc k) (8 * s) (child (suc (suc k)) c)) in
      path_more (suc k) n c
      ∙ ap₂ (λ a b. a + b) (offset_here (suc k) n c here q)
      (ap (λ m. total (path ns (suc k) m c)) (link_here (suc k) n c here q)
      ∙ rank_is k (link_to cells ns (suc k) (sub_cube (suc k) c)) c (link_node cells ns k (sub_cube (suc k) c) known) known.1 o)
      ∙ sym (count_split cells (first (suc (suc k)) s) (first (suc k) (sub_cube (suc k) c)) c low (span_from (suc k) c))

module _ (cells : List ℕ) (ns : List Node) (sound : Sound ns) (few : length ns ≤ none) where
  -- the walk goes on to the record of the child
  leads_here : (k n c : ℕ) → n < length ns → node_at ns n ≡ record_of cells ns k (sub_cube (suc k) c) → ChildrenKnown cells ns k (sub_cube (suc k) c)
      → occupied cells k (sub_cube k c) ≡ true → leads ns n k (link_of (node_at ns n) (child (suc k) c)) ≡ true
  leads_here zero n c h here kids o = refl
  leads_here (suc k) n c h here kids o =
      let l = link_here cells ns (suc k) n c here o in
      let q = child_known cells ns (suc k) n c here kids o in
      let b : bit (child (suc (suc k)) c) (node_at ns n).mask ≡ 1 = bit_here cells ns (suc k) n c here ∙ ap (λ t. cond {A = ℕ} t 1 0) o in
      let v : (node_at ns n).level ≡ suc (suc k) = ap (λ a. a.level) here in
      let f = (sound n h).lead (rw v (omega arith)) (child (suc (suc k)) c) (child_below (suc k) c) b in
      let p : link_to cells ns (suc k) (sub_cube (suc k) c) < n = rw l at f.0 in
      let w : (node_at ns (link_to cells ns (suc k) (sub_cube (suc k) c))).level ≡ suc k = ap (λ a. a.level) (link_node cells ns k (sub_cube (suc k) c) q) in
      rw l
      (and_from _ _
      (and_from _ _ (ap not (ne_eqb _ none (λ z. absurd (omega (arith, q.0))))) (lt-ltb _ n p))
      (eq-eqb _ (suc k) w))

  -- a walk finds exactly the cells: by the bit of the child that it takes
  by_bit : (k n c : ℕ) → n < length ns → node_at ns n ≡ record_of cells ns k (sub_cube (suc k) c) → ChildrenKnown cells ns k (sub_cube (suc k) c)
      → (occupied cells k (sub_cube k c) ≡ true → walk ns k (link_of (node_at ns n) (child (suc k) c)) c ≡ holds cells c (c + 1))
      → walk ns (suc k) n c ≡ holds cells c (c + 1)
  by_bit k n c h here kids more =
      ⊎_elim
      (λ o. walk_on ns k n c (bit_here cells ns k n c here ∙ ap (λ t. cond {A = ℕ} t 1 0) o) (leads_here k n c h here kids o) ∙ more o)
      (λ o. walk_shut ns k n c (bit_here cells ns k n c here ∙ ap (λ t. cond {A = ℕ} t 1 0) o) ∙ sym (free_code cells k c o))
      (cases_Bool (occupied cells k (sub_cube k c)))

  arrived : (m c : ℕ) → occupied cells 0 (sub_cube 0 c) ≡ true → walk ns 0 m c ≡ holds cells c (c + 1)
  unfolding walk
  arrived m c o = sym o ∙ occupied_cell cells c

  -- a walk finds exactly the cells
  pub walk_is : (k n c : ℕ) → n < length ns → node_at ns n ≡ record_of cells ns k (sub_cube (suc k) c) → ChildrenKnown cells ns k (sub_cube (suc k) c)
      → walk ns (suc k) n c ≡ holds cells c (c + 1)
  walk_is zero n c h here kids = by_bit zero n c h here kids (λ o. arrived (link_of (node_at ns n) (child 1 c)) c o)
  walk_is (suc k) n c h here kids =
      by_bit (suc k) n c h here kids
      (λ o.
      let q = child_known cells ns (suc k) n c here kids o in
      ap (λ m. walk ns (suc k) m c) (link_here cells ns (suc k) n c here o)
      ∙ walk_is k (link_to cells ns (suc k) (sub_cube (suc k) c)) c q.0 (link_node cells ns k (sub_cube (suc k) c) q) q.1)
