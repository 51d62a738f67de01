-- The cells under a record, by its last child: those before the child, and those under it.
use Rattle.std.proofs.Common.{◌≡◌, ℕ, zero, suc, ◌+◌, ◌-◌, ◌*◌, ◌/◌, ◌%◌, ◌^◌, ◌<◌, ◌≤◌, true, false, cond, List, sym, refl, ap, ◌∙◌, ap₂, add-zero, add-suc, zero-lt-suc, arith}
use native.Mathlib.Nat.{pow-succ', div-eq_of_lt, pow-le-pow_right}
use lib.Arith.{digits_div}
use Rattle.std.proofs.lemmas.Bool.{eq-eqb, ne_eqb, cond-true, cond-false}
use Rattle.cells.specs.Hall.{bit}
use Rattle.nodes.specs.declared.node.Node.{Node}
use Rattle.dag.specs.Rules.{node_at, link_of, offset_of}
use Rattle.dag.specs.Sizes.{has_child, sum_to, size, size_before, RightOffsets}

-- ---- the highest bit of a mask

-- bit j is the highest
abbrev pub Highest : ℕ → ℕ → Type 0
Highest mask j = (2 ^ j ≤ mask) × (mask < 2 ^ suc j)

pub highest_set : (a : Node) (j : ℕ) → Highest a.mask j → has_child a j ≡ true
highest_set a j h =
    let low = h.0 in
    let high = h.1 in
    let p = pow-succ' 2 j in
    let e : a.mask ≡ 1 * 2 ^ j + (a.mask - 2 ^ j) = omega arith in
    let q : a.mask / 2 ^ j ≡ 1 = ap (λ x. x / 2 ^ j) e ∙ digits_div 1 {m = 2 ^ j} {r = a.mask - 2 ^ j} (omega arith) in
    eq-eqb (bit j a.mask) 1 (ap (λ x. x % 2) q)

pub highest_clear : (a : Node) (j i : ℕ) → Highest a.mask j → j < i → has_child a i ≡ false
highest_clear a j i h l =
    let high = h.1 in
    let p : 2 ^ suc j ≤ 2 ^ i = pow-le-pow_right (zero-lt-suc 1) l in
    let q : a.mask / 2 ^ i ≡ 0 = div-eq_of_lt (omega arith) in
    let z : bit i a.mask ≡ 0 = ap (λ x. x % 2) q in
    ne_eqb (bit i a.mask) 1 (λ e. omega arith)

-- ---- sums

sum_short : (f : ℕ → ℕ) (n j : ℕ) → ((i : ℕ) → n ≤ i → i < n + j → f i ≡ 0) → sum_to f (n + j) ≡ sum_to f n
sum_short f n zero h = ap (sum_to f) (add-zero n)
sum_short f n (suc j) h =
    ap (sum_to f) (add-suc n j) ∙ more (n + j) (h (n + j) (omega arith) (omega arith)) ∙ sum_short f n j (λ i a b. h i a (omega arith))
  where
    more : (l : ℕ) → f l ≡ 0 → sum_to f (suc l) ≡ sum_to f l
    more l e = unfold sum_to in omega arith

pub sum_more : (f : ℕ → ℕ) (n : ℕ) → sum_to f (suc n) ≡ sum_to f n + f n
unfolding sum_to
sum_more f n = refl

pub sum_none : (f : ℕ → ℕ) → sum_to f 0 ≡ 0
unfolding sum_to
sum_none f = refl

pub size_cell : (ns : List Node) (n : ℕ) → size ns 0 n ≡ 1
unfolding size
size_cell ns n = refl

pub size_all : (ns : List Node) (k n : ℕ) → size ns (suc k) n ≡ size_before ns k n 8
unfolding size
size_all ns k n = refl

-- the offset of the last child and the cells under it
pub size_last : (ns : List Node) (k n j : ℕ) → (node_at ns n).level ≡ suc k → RightOffsets ns n → j < 8 → Highest (node_at ns n).mask j
    → size ns (suc k) n ≡ offset_of (node_at ns n) j + size ns k (link_of (node_at ns n) j)
size_last ns k n j v right l h =
    let a = node_at ns n in
    let f : ℕ → ℕ = λ i. cond (has_child a i) (size ns k (link_of a i)) 0 in
    let set = highest_set a j h in
    let e : suc j + (7 - j) ≡ 8 = omega arith in
    size_all ns k n
    ∙ ap (sum_to f) (sym e)
    ∙ sum_short f (suc j) (7 - j) (λ i b c. cond-false (has_child a i) _ 0 (highest_clear a j i h b))
    ∙ sum_more f j
    ∙ ap₂ (λ x y. x + y) (sym (right k v j l ∙ cond-true (has_child a j) _ 0 set)) (cond-true (has_child a j) _ 0 set)
