-- On level 1 the ones of a mask count the cells.
use Rattle.std.proofs.Common.{◌≡◌, ℕ, zero, suc, ◌+◌, ◌-◌, ◌*◌, ◌%◌, ◌^◌, ◌<◌, ◌≤◌, Bool, true, false, cond, ◌&&◌, ltb, leb, List, [], ◌∷◌, sym, refl, ap, ◌∙◌, ap₂, ⊎_elim, add-zero, add-suc, mod-eq_of_lt, mul_assoc, mul_comm, add_comm, mul-one, add-one, arith, pow-add}
use native.Mathlib.Nat.{mul-add-mod_self_right}
use lib.Count.{ones, ones_cat}
use Rattle.std.proofs.lemmas.Bool.{lt-ltb, cond_both, cases_lt}
use Rattle.std.proofs.lemmas.Bool.Decides.{nat_tests}
use Rattle.cells.specs.Hall.{from_digits}
use Rattle.cells.proofs.Digits.{digits_same, digits_below}
use Rattle.nodes.specs.declared.node.Node.{Node}
use Rattle.dag.specs.Sets.{count, Rising}
use Rattle.dag.specs.Records.{first, occupied, record_of}
use Rattle.dag.specs.Rows.{row_node, row_count}
use Rattle.dag.proofs.Rows.{taken, row_all, count_start, count_more}

-- ---- no cell stands twice

abbrev pub Single : List ℕ → Type 0
Single cells = (d : ℕ) → count cells d (d + 1) ≤ 1

one_higher : (e d : ℕ) → d < e → cond {A = ℕ} (leb d e && ltb e (d + 1)) 1 0 ≡ 0
one_higher e d h = grind (arith, nat_tests)

one_most : (e d : ℕ) → cond {A = ℕ} (leb d e && ltb e (d + 1)) 1 0 ≤ 1
one_most e d = cond_both (leb d e && ltb e (d + 1)) 1 0 (λ n. n ≤ 1) (λ t. omega arith) (λ t. omega arith)

rising_above : (c d : ℕ) (cells : List ℕ) → Rising (c ∷ cells) → d ≤ c → count cells d (d + 1) ≡ 0
unfolding count
rising_above c d [] h l = refl
rising_above c d (e ∷ cells) h l =
    let a = one_higher e d (omega (arith, h.0)) in
    let b = rising_above e d cells h.1 (omega (arith, h.0)) in
    omega arith

rising_rest : (c : ℕ) (cells : List ℕ) → Rising (c ∷ cells) → Rising cells
rising_rest c [] h = tt
rising_rest c (d ∷ cells) h = h.1

one_lower : (e d : ℕ) → e < d → cond {A = ℕ} (leb d e && ltb e (d + 1)) 1 0 ≡ 0
one_lower e d h = grind (arith, nat_tests)

pub rising_single : (cells : List ℕ) → Rising cells → Single cells
unfolding count
rising_single [] h d = omega arith
rising_single (c ∷ cells) h d =
    let m = one_most c d in
    ⊎_elim
    (λ l. let a = one_lower c d l in let b = rising_single cells (rising_rest c cells h) d in omega arith)
    (λ l. let b = rising_above c d cells h l in omega arith)
    (cases_lt c d)

-- ---- ones of digits

ones_bit : (t : Bool) → ones (cond t 1 0) ≡ cond t 1 0
unfolding ones
ones_bit true = refl
ones_bit false = refl

bit_small : (t : Bool) → cond {A = ℕ} t 1 0 < 2
bit_small t = cond_both t 1 0 (λ n. n < 2) (λ e. omega arith) (λ e. omega arith)

-- the lowest n of n + j digits
digits_low : (b : ℕ) (d : ℕ → ℕ) → ((i : ℕ) → d i < b) → (n j : ℕ) → from_digits b d (n + j) % b ^ n ≡ from_digits b d n
digits_low b d h n zero = rw (add-zero n) (mod-eq_of_lt (digits_below b d h n))
digits_low b d h n (suc j) =
    ap (λ i. from_digits b d i % b ^ n) (add-suc n j) ∙ top (n + j) (pow-add b n j) ∙ digits_low b d h n j
  where
    top : (l : ℕ) → b ^ l ≡ b ^ n * b ^ j → from_digits b d (suc l) % b ^ n ≡ from_digits b d l % b ^ n
    top l e =
        unfold from_digits in
        ap (λ x. (x + from_digits b d l) % b ^ n) (ap (λ x. d l * x) (e ∙ mul_comm (b ^ n) (b ^ j)) ∙ sym (mul_assoc (d l) (b ^ j) (b ^ n)))
        ∙ mul-add-mod_self_right (d l * b ^ j) (b ^ n) (from_digits b d l)

module _ (cells : List ℕ) (single : Single cells) (s : ℕ) where
  one_cell : (n : ℕ) → cond {A = ℕ} (occupied cells 0 (8 * s + n)) 1 0 ≡ count cells (first 0 (8 * s + n)) (first 0 (8 * s + n + 1))
  one_cell n =
      let e : count cells (first 0 (8 * s + n)) (first 0 (8 * s + n + 1)) ≡ count cells (8 * s + n) (8 * s + n + 1) =
      ap₂ (count cells) (mul-one (8 * s + n)) (mul-one (8 * s + n + 1)) in
      let l = single (8 * s + n) in
      let k : count cells (first 0 (8 * s + n)) (first 0 (8 * s + n + 1)) ≤ 1 = omega arith in
      at_most (count cells (first 0 (8 * s + n)) (first 0 (8 * s + n + 1))) k
    where
      at_most : (x : ℕ) → x ≤ 1 → cond {A = ℕ} (ltb 0 x) 1 0 ≡ x
      at_most x h = grind (arith, nat_tests)

  ones_cells : (n : ℕ) → ones (from_digits 2 (λ i. cond (occupied cells 0 (8 * s + i)) 1 0) n) ≡ row_count cells 0 s n
  unfolding from_digits ones
  ones_cells zero = sym (count_start cells 0 s)
  ones_cells (suc n) =
      ones_cat n (cond (occupied cells 0 (8 * s + n)) 1 0) (from_digits 2 (λ i. cond (occupied cells 0 (8 * s + i)) 1 0) n)
      (digits_below 2 (λ i. cond (occupied cells 0 (8 * s + i)) 1 0) (λ i. bit_small (occupied cells 0 (8 * s + i))) n)
      ∙ ap₂ (λ a b. a + b) (ones_bit (occupied cells 0 (8 * s + n)) ∙ one_cell n) (ones_cells n)
      ∙ add_comm (count cells (first 0 (8 * s + n)) (first 0 (8 * s + n + 1))) (row_count cells 0 s n)
      ∙ sym (count_more cells 0 s n)
      ∙ ap (row_count cells 0 s) (add-one n)

  -- the ones below bit i of a row's mask are the cells in the children before i
  pub row_ones : (ns : List Node) (n i : ℕ) → i ≤ n → i ≤ 8 → ones ((row_node cells ns 0 s n).mask % 2 ^ i) ≡ row_count cells 0 s i
  unfolding row_node
  row_ones ns n i h l =
      let e : i + (8 - i) ≡ 8 = omega arith in
      ap ones
      (ap (λ m. from_digits 2 (λ j. cond (taken cells 0 s n j) 1 0) m % 2 ^ i) (sym e)
      ∙ digits_low 2 (λ j. cond (taken cells 0 s n j) 1 0) (λ j. bit_small (taken cells 0 s n j)) i (8 - i)
      ∙ digits_same 2 (λ j. cond (taken cells 0 s n j) 1 0) (λ j. cond (occupied cells 0 (8 * s + j)) 1 0) i
      (λ j b. ap (λ t. cond {A = ℕ} (t && occupied cells 0 (8 * s + j)) 1 0) (lt-ltb j n (omega arith))))
      ∙ ones_cells i

  -- and so for a whole record, where they are offset i
  pub record_ones : (ns : List Node) (i : ℕ) → i ≤ 8 → ones ((record_of cells ns 0 s).mask % 2 ^ i) ≡ count cells (first 0 (8 * s)) (first 0 (8 * s + i))
  record_ones ns i l = ap (λ (a : Node). ones (a.mask % 2 ^ i)) (sym (row_all cells ns 0 s)) ∙ row_ones ns 8 i l l ∙ shown
    where
      shown : row_count cells 0 s i ≡ count cells (first 0 (8 * s)) (first 0 (8 * s + i))
      shown = unfold row_count in refl
