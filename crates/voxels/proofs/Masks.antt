-- The mask, the links and the offsets of a row that takes one more child.
use Rattle.std.proofs.Common.{◌≡◌, ℕ, zero, suc, ◌+◌, ◌-◌, ◌*◌, ◌%◌, ◌^◌, ◌<◌, ◌≤◌, cond, List, get_or, set, sym, ap, ◌∙◌, subst, add-zero, add-suc, arith}
use lib.Bits.{bit_and, bit_or, and_mask, or_shifted_r}
use Rattle.std.proofs.lemmas.Nat.{one_shl}
use Rattle.std.proofs.lemmas.List.{set-get_or}
use Rattle.std.proofs.lemmas.Bool.{lt-ltb, le-ltb, and_left, cond-true, cond_both}
use Rattle.cells.specs.Hall.{from_digits}
use Rattle.cells.proofs.Digits.{digits_below}
use Rattle.nodes.specs.declared.node.Node.{Node}
use Rattle.nodes.specs.Records.{none}
use Rattle.dag.specs.Records.{occupied, link_to}
use Rattle.dag.specs.Rows.{row_node, with_child}
use Rattle.dag.proofs.Parts.{child_eight}
use Rattle.dag.proofs.Rows.{taken}

-- ---- bits as the code has them

pub bit_joins : (mask child : ℕ) → child < 8 → mask < 2 ^ child → bit_or mask (1 * 2 ^ child % 256) ≡ mask + 2 ^ child
bit_joins mask child h l =
    let e : 1 * 2 ^ child % 256 ≡ 1 * 2 ^ child = one_shl child 8 h ∙ omega arith in
    ap (bit_or mask) e ∙ or_shifted_r 1 child mask l ∙ omega arith

pub bits_before : (mask child : ℕ) → child < 8 → bit_and mask (1 * 2 ^ child % 256 - 1) ≡ mask % 2 ^ child
bits_before mask child h = ap (λ n. bit_and mask (n - 1)) (one_shl child 8 h) ∙ and_mask mask child

set_same : (xs : List ℕ) (i v : ℕ) → get_or xs i 0 ≡ v → set xs i v ≡ xs
set_same xs i v e = ap (set xs i) (sym e) ∙ set-get_or xs i 0

-- ---- a row with one more child

-- by its four parts
pub child_taken : (row after : Node) (child link offset : ℕ) → after.level ≡ row.level → after.mask ≡ row.mask + 2 ^ child
    → after.links ≡ set row.links child link → after.offsets ≡ set row.offsets child offset → after ≡ with_child row child link offset
unfolding with_child
child_taken row after child link offset level mask links offsets = λ i. record { level = level i; mask = mask i; links = links i; offsets = offsets i }

-- where the link is there already
pub cell_taken : (row after : Node) (child offset : ℕ) → after.level ≡ row.level → after.mask ≡ row.mask + 2 ^ child
    → after.links ≡ row.links → after.offsets ≡ set row.offsets child offset → get_or row.links child 0 ≡ none → after ≡ with_child row child none offset
cell_taken row after child offset level mask links offsets e =
    child_taken row after child none offset level mask (links ∙ sym (set_same row.links child none e)) offsets

-- ---- a row with its first n children has room for child n

digits_short : (d : ℕ → ℕ) (n j : ℕ) → ((i : ℕ) → n ≤ i → d i ≡ 0) → from_digits 2 d (n + j) ≡ from_digits 2 d n
digits_short d n zero h = ap (from_digits 2 d) (add-zero n)
digits_short d n (suc j) h = ap (from_digits 2 d) (add-suc n j) ∙ top (n + j) (h (n + j) (omega arith)) ∙ digits_short d n j h
  where
    top : (l : ℕ) → d l ≡ 0 → from_digits 2 d (suc l) ≡ from_digits 2 d l
    top l e = unfold from_digits in let z : d l * 2 ^ l ≡ 0 * 2 ^ l = ap (λ x. x * 2 ^ l) e in omega arith

pub row_mask : (cells : List ℕ) (ns : List Node) (k s n : ℕ) → n ≤ 8 → (row_node cells ns k s n).mask < 2 ^ n
unfolding row_node
row_mask cells ns k s n h =
    let e : n + (8 - n) ≡ 8 = omega arith in
    let p : from_digits 2 (λ i. cond (taken cells k s n i) 1 0) (n + (8 - n)) ≡ from_digits 2 (λ i. cond (taken cells k s n i) 1 0) n =
    digits_short (λ i. cond (taken cells k s n i) 1 0) n (8 - n) (λ i l. ap (λ t. cond {A = ℕ} t 1 0) (and_left _ (occupied cells k (8 * s + i)) (le-ltb i n l))) in
    subst (λ j. from_digits 2 (λ i. cond (taken cells k s n i) 1 0) j < 2 ^ n) e
    (subst (λ x. x < 2 ^ n) (sym p) (digits_below 2 (λ i. cond (taken cells k s n i) 1 0) (λ i. cond_both (taken cells k s n i) 1 0 (λ x. x < 2) (λ t. omega arith) (λ t. omega arith)) n))

pub row_link : (cells : List ℕ) (ns : List Node) (k s n : ℕ) → n < 8 → get_or (row_node cells ns k s n).links n 0 ≡ none
unfolding row_node
row_link cells ns k s n h =
    sym (cond-true _ _ 0 (lt-ltb n 8 h))
    ∙ child_eight (λ i. cond (taken cells k s n i) (link_to cells ns k (8 * s + i)) none) n h
    ∙ ap (λ t. cond t (link_to cells ns k (8 * s + n)) none) (and_left _ (occupied cells k (8 * s + n)) (le-ltb n n (omega arith)))
