-- Reading decimal digits from the left.
use Rattle.std.proofs.Common.{◌≡◌, ℕ, ◌+◌, ◌-◌, ◌*◌, ◌^◌, ◌<◌, ◌≤◌, Bool, true, false, cond, ◌&&◌, leb, List, length, get_or, drop, Some, None, sym, refl, ap, ◌∙◌, lt_of_lt_of_le, pow-suc, add-one, arith}
use native.Mathlib.Nat.{pow-le-pow_right}
use Rattle.std.specs.Str.Parse.{digits_value, digits_value_after}
use Rattle.std.specs.Char.{is_ascii_digit, digit_value as char_digit_value}
use Rattle.std.specs.Str.{all_ascii_digits}
use Rattle.std.proofs.lemmas.List.{at_drop_more, at_drop_all}
use Rattle.std.proofs.lemmas.Bool.{and_left, and_right, and_parts, le-leb, leb-true}
use Rattle.std.proofs.lemmas.Str.Parse.{numerals_by_value, tells_all_ascii_digits, digits_value_short}
use Rattle.std.proofs.lemmas.Bool.Decides.{nat_tests}
use Rattle.text.specs.Numbers.{number_in}

digit_value : (b : ℕ) → is_ascii_digit b ≡ true → char_digit_value b ≡ b - 48
digit_value b e = grind (arith, nat_tests)

-- a digit is 48 to 57
pub digit_range : (b : ℕ) → is_ascii_digit b ≡ true → (48 ≤ b) × (b ≤ 57)
digit_range b e = (grind (arith, nat_tests), grind (arith, nat_tests))

module _ (bs : List ℕ) (i v : ℕ) (inside : i < length bs)
    (rest : all_ascii_digits (drop i bs) ≡ all_ascii_digits bs) (goes : digits_value_after 10 v (drop i bs) ≡ digits_value 10 bs) where
  -- a byte that is no digit: the text is no number
  pub not_digit : (most : ℕ) → is_ascii_digit (get_or bs i 0) ≡ false → None ≡ number_in most bs
  not_digit most e =
      let f : all_ascii_digits bs ≡ false = sym rest ∙ at_drop_more all_ascii_digits bs i 0 inside ∙ and_left _ _ e in
      rw (f, and_right (leb 1 (length bs) && leb (length bs) most) false refl) refl

  pub rest_more : is_ascii_digit (get_or bs i 0) ≡ true → all_ascii_digits (drop (i + 1) bs) ≡ all_ascii_digits bs
  rest_more e = sym (ap (λ b. b && all_ascii_digits (drop (i + 1) bs)) e) ∙ sym (at_drop_more all_ascii_digits bs i 0 inside) ∙ rest

  pub value_goes : is_ascii_digit (get_or bs i 0) ≡ true → digits_value_after 10 (10 * v + (get_or bs i 0 - 48)) (drop (i + 1) bs) ≡ digits_value 10 bs
  value_goes e =
      let d = digit_value (get_or bs i 0) e in
      let f : 10 * v + (get_or bs i 0 - 48) ≡ v * 10 + char_digit_value (get_or bs i 0) = omega arith in
      ap (λ n. digits_value_after 10 n (drop (i + 1) bs)) f ∙ sym (at_drop_more (digits_value_after 10 v) bs i 0 inside) ∙ goes

-- the value so far has no more digits than were read
pub value_room : (i v b : ℕ) → v < 10 ^ i → b ≤ 57 → 10 * v + (b - 48) < 10 ^ (i + 1)
value_room i v b h l = rw (add-one i, pow-suc 10 i) (omega arith)

pub value_small : (i v : ℕ) → v < 10 ^ i → i ≤ 10 → v < 10 ^ 10
value_small i v h l = lt_of_lt_of_le h (pow-le-pow_right {n = 10} (omega arith) l)

pub number_whole : (most : ℕ) (bs : List ℕ) (i v : ℕ) → length bs ≤ i → 1 ≤ length bs → length bs ≤ most
    → all_ascii_digits (drop i bs) ≡ all_ascii_digits bs → digits_value_after 10 v (drop i bs) ≡ digits_value 10 bs → Some v ≡ number_in most bs
number_whole most bs i v done some few rest goes =
    let f : all_ascii_digits bs ≡ true = sym rest ∙ at_drop_all all_ascii_digits bs i done in
    let g : v ≡ digits_value 10 bs = sym (at_drop_all (digits_value_after 10 v) bs i done) ∙ goes in
    rw (le-leb 1 (length bs) some, le-leb (length bs) most few, f) (ap Some g)

some_cond : (b : Bool) (v w : ℕ) → Some v ≡ cond b (Some w) None → (b ≡ true) × (v ≡ w)
some_cond true v w e = (refl, cc)
some_cond false v w e = let z : ◌≡◌ {A = ℕ} 0 1 = cc in absurd (omega arith)

-- a number of few digits is small
pub number_below : (most : ℕ) (bs : List ℕ) (v : ℕ) → Some v ≡ number_in most bs → v < 10 ^ most
number_below most bs v e =
    let f = some_cond (leb 1 (length bs) && leb (length bs) most && all_ascii_digits bs) v (digits_value 10 bs) e in
    let p = and_parts _ _ f.0 in
    let q = and_parts _ _ p.0 in
    rw f.1 (digits_value_short (numerals_by_value (λ ds. all_ascii_digits ds ≡ true) tells_all_ascii_digits) bs most p.1 (leb-true _ _ q.1))
