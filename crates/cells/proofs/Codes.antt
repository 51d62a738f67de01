-- Codes of cells and cells of codes.
use Rattle.std.proofs.Common.{◌≡◌, ℕ, zero, suc, ◌+◌, ◌*◌, ◌/◌, ◌%◌, ◌^◌, ◌<◌, ◌≤◌, true, sym, refl, ◌∙◌, ⊎_elim, lt_of_lt_of_le, add-zero, mod-lt, mod-eq_of_lt, add-mul, one-mul, pow-suc, div-add-mod', mul-suc, arith, pow-add}
use native.Mathlib.Nat.{div-eq_of_lt-le, div-eq_of_lt, div-div-eq-div-mul, pow-le-pow_right}
use Rattle.std.proofs.lemmas.Nat.{shl_whole}
use Rattle.std.proofs.lemmas.Bool.{cases_lt}
use Rattle.std.proofs.lemmas.Bool.Decides.{nat_tests}
use Rattle.cells.specs.Hall.{levels_fit, bit, from_digits, cell_fits, code_of, axis, cell_at, CodeBits}
use Rattle.cells.specs.declared.hall.Cell.{Cell}
use Rattle.cells.proofs.Digits.{digits_same, digits_of, digits_below, digit_at, digits_more, base_pos}
use Rattle.cells.specs.SubCubes.{InSubCubes}

-- ---- three bits to a digit

pub eight : (j : ℕ) → 2 ^ (3 * j) ≡ 8 ^ j
eight zero = refl
eight (suc j) = rw (mul-suc, pow-add 2 (3 * j) 3, eight j, pow-suc 8 j) refl

bit_small : (j n : ℕ) → bit j n < 2
bit_small j n = mod-lt (n / 2 ^ j) (omega arith)

-- bit 3j + a of a number, by digit j in base 8
bit_by : (n j a : ℕ) → bit (3 * j + a) n ≡ n / 8 ^ j / 2 ^ a % 2
bit_by n j a = rw (pow-add 2 (3 * j) a, eight j, ← div-div-eq-div-mul n (8 ^ j) (2 ^ a)) refl

pub bit_0 : (n j : ℕ) → bit (3 * j) n ≡ n / 8 ^ j % 8 % 2
bit_0 n j = let q : ℕ = n / 8 ^ j in rw (eight j) (omega arith)

pub bit_1 : (n j : ℕ) → bit (3 * j + 1) n ≡ n / 8 ^ j % 8 / 2 % 2
bit_1 n j = bit_by n j 1 ∙ omega arith

pub bit_2 : (n j : ℕ) → bit (3 * j + 2) n ≡ n / 8 ^ j % 8 / 4 % 2
bit_2 n j = bit_by n j 2 ∙ omega arith

-- the digit of a code that holds bit j of each coordinate
abbrev pub code_digit : Cell → ℕ → ℕ
code_digit c j = bit j c.x + 2 * bit j c.y + 4 * bit j c.z

pub code_digit_small : (c : Cell) (j : ℕ) → code_digit c j < 8
code_digit_small c j = omega (arith, bit_small j c.x, bit_small j c.y, bit_small j c.z)

-- ---- the laws

-- a code is below 8 ^ L
pub code_below : (L : ℕ) (c : Cell) → code_of L c < 8 ^ L
code_below L c = digits_below 8 (code_digit c) (code_digit_small c) L

code_digit_lem : (L : ℕ) (c : Cell) (j : ℕ) → j < L → code_of L c / 8 ^ j % 8 ≡ code_digit c j
code_digit_lem L c j h = digit_at 8 (code_digit c) (code_digit_small c) L j h

module _ (L : ℕ) (c : Cell) where
  low_bits : (j : ℕ) → j < L → (bit (3 * j) (code_of L c) ≡ bit j c.x) × (bit (3 * j + 1) (code_of L c) ≡ bit j c.y) × (bit (3 * j + 2) (code_of L c) ≡ bit j c.z)
  low_bits j h =
      let p = bit_small j c.x in
      let q = bit_small j c.y in
      let r = bit_small j c.z in (
        bit_0 (code_of L c) j ∙ rw (code_digit_lem L c j h) (omega arith),
        bit_1 (code_of L c) j ∙ rw (code_digit_lem L c j h) (omega arith),
        bit_2 (code_of L c) j ∙ rw (code_digit_lem L c j h) (omega arith),
      )

-- past the highest bit there is none
bit_past : (b n k j : ℕ) → n < b ^ k → k ≤ j → 0 < b → n / b ^ j ≡ 0
bit_past b n k j h l pos = div-eq_of_lt (lt_of_lt_of_le h (pow-le-pow_right pos l))

module _ (L : ℕ) (c : Cell) (fx : c.x < 2 ^ L) (fy : c.y < 2 ^ L) (fz : c.z < 2 ^ L) where
  high_bits : (j : ℕ) → L ≤ j → (bit (3 * j) (code_of L c) ≡ bit j c.x) × (bit (3 * j + 1) (code_of L c) ≡ bit j c.y) × (bit (3 * j + 2) (code_of L c) ≡ bit j c.z)
  high_bits j l =
      let e = bit_past 8 (code_of L c) L j (code_below L c) l (omega arith) in
      let ex = bit_past 2 c.x L j fx l (omega arith) in
      let ey = bit_past 2 c.y L j fy l (omega arith) in
      let ez = bit_past 2 c.z L j fz l (omega arith) in (
        bit_0 (code_of L c) j ∙ omega arith,
        bit_1 (code_of L c) j ∙ omega arith,
        bit_2 (code_of L c) j ∙ omega arith,
      )

  -- bits 3j, 3j + 1 and 3j + 2 of the code are bit j of x, y and z
  pub code_bits : CodeBits c (code_of L c)
  code_bits j = ⊎_elim (low_bits L c j) (high_bits j) (cases_lt j L)

  axis_back : (v : ℕ) (d : ℕ → ℕ) → v < 2 ^ L → ((j : ℕ) → j < L → d j ≡ bit j v) → from_digits 2 d L ≡ v
  axis_back v d f h = digits_same 2 d (λ j. bit j v) L h ∙ digits_of 2 v L (omega arith) ∙ mod-eq_of_lt f

  -- to a code and back is the same cell
  pub code_back : cell_at L (code_of L c) ≡ c
  code_back =
      let ex = axis_back c.x (λ j. bit (3 * j + 0) (code_of L c)) fx (λ j h. rw add-zero (low_bits L c j h).0) in
      let ey = axis_back c.y (λ j. bit (3 * j + 1) (code_of L c)) fy (λ j h. (low_bits L c j h).1) in
      let ez = axis_back c.z (λ j. bit (3 * j + 2) (code_of L c)) fz (λ j h. (low_bits L c j h).2) in
      λ i. record { x = ex i; y = ey i; z = ez i }

-- ---- the cell of a code

-- bit j of a coordinate
pub axis_bit : (L n a j : ℕ) → j < L → bit j (axis L a n) ≡ bit (3 * j + a) n
axis_bit L n a j h = digit_at 2 (λ i. bit (3 * i + a) n) (λ i. bit_small (3 * i + a) n) L j h

three_bits : (q : ℕ) → q < 8 → q % 2 + 2 * (q / 2 % 2) + 4 * (q / 4 % 2) ≡ q
three_bits q h =
    let e : q / 4 ≡ q / 2 / 2 = sym (div-div-eq-div-mul q 2 2) in
    rw e (omega arith)

cell_digit : (L n j : ℕ) → j < L → code_digit (cell_at L n) j ≡ n / 8 ^ j % 8
cell_digit L n j h =
    rw (axis_bit L n 0 j h, axis_bit L n 1 j h, axis_bit L n 2 j h, add-zero (3 * j), bit_0 n j, bit_1 n j, bit_2 n j)
    (three_bits (n / 8 ^ j % 8) (mod-lt (n / 8 ^ j) (omega arith)))

-- from a code and back is the same code
pub cell_back : (L n : ℕ) → n < 8 ^ L → code_of L (cell_at L n) ≡ n
cell_back L n h =
    digits_same 8 (code_digit (cell_at L n)) (λ j. n / 8 ^ j % 8) L (cell_digit L n) ∙ digits_of 8 n L (omega arith) ∙ mod-eq_of_lt h

-- the cell of a code lies in the hall
pub axis_below : (L a n : ℕ) → axis L a n < 2 ^ L
axis_below L a n = digits_below 2 (λ j. bit (3 * j + a) n) (λ j. bit_small (3 * j + a) n) L

-- ---- the turns of the loops that make codes and cells, in 32 bits

-- a code of at most 10 levels has at most 30 bits
pub code_fits : (j : ℕ) (c : Cell) → j ≤ 10 → code_of j c < 2 ^ 30
code_fits j c h = lt_of_lt_of_le (code_below j c) (pow-le-pow_right {n = 8} (omega arith) h)

-- a digit that was shifted to its place
pub digit_shifted : (q j : ℕ) → q < 8 → j < 10 → (q * 2 ^ (3 * j)) % 2 ^ 32 ≡ q * 8 ^ j
digit_shifted q j h l = rw (shl_whole q 3 (3 * j) 32 h (omega arith), eight j) refl

pub axis_fits : (j a n : ℕ) → j ≤ 10 → axis j a n < 2 ^ 10
axis_fits j a n h = lt_of_lt_of_le (axis_below j a n) (pow-le-pow_right {n = 2} (omega arith) h)

-- ---- what the tests tell

pub cell_fits_lem : (L : ℕ) (c : Cell) → cell_fits L c ≡ true → (c.x < 2 ^ L) × (c.y < 2 ^ L) × (c.z < 2 ^ L)
cell_fits_lem L c e = (grind (arith, nat_tests), grind (arith, nat_tests), grind (arith, nat_tests))

pub cell_fits_back : (L : ℕ) (c : Cell) → c.x < 2 ^ L → c.y < 2 ^ L → c.z < 2 ^ L → cell_fits L c ≡ true
cell_fits_back L c fx fy fz = grind (arith, nat_tests)

-- ---- sub-cubes

pub in_sub_cubes : (c : ℕ) → InSubCubes c
in_sub_cubes c k s = (
  (λ e. let f : c / 8 ^ k * 8 ^ k + c % 8 ^ k ≡ c = div-add-mod' c (8 ^ k) in
      let g = mod-lt c (base_pos 8 k (omega arith)) in
      let h : s * 8 ^ k + c % 8 ^ k ≡ c = rw e at f in
      (omega arith, rw (add-mul, one-mul) (omega arith))),
  (λ low high. div-eq_of_lt-le (8 ^ k) low high),
)

pub levels_fit_lem : (L : ℕ) → levels_fit L ≡ true → (1 ≤ L) × (L ≤ 10)
levels_fit_lem L e = (grind (arith, nat_tests), grind (arith, nat_tests))

-- no hall has more than 2 ^ 30 cells
pub volume_most : (L : ℕ) → levels_fit L ≡ true → 8 ^ L ≤ 2 ^ 30
volume_most L e = pow-le-pow_right {n = 8} (omega arith) (levels_fit_lem L e).1

-- ---- one level more, in 32 bits

-- the code with the bits of one more j
pub code_more : (j : ℕ) (c : Cell) → j < 10 → code_of j c + (code_digit c j * 2 ^ (3 * j)) % 2 ^ 32 ≡ code_of (j + 1) c
code_more j c h = rw (digit_shifted (code_digit c j) j (code_digit_small c j) h) (sym (digits_more 8 (code_digit c) j))

-- the coordinate with one more bit
pub axis_more : (j a n : ℕ) → j < 10 → axis j a n + (bit (3 * j + a) n * 2 ^ j) % 2 ^ 32 ≡ axis (j + 1) a n
axis_more j a n h =
    rw (shl_whole (bit (3 * j + a) n) 1 j 32 (bit_small (3 * j + a) n) (omega arith)) (sym (digits_more 2 (λ i. bit (3 * i + a) n) j))
