-- Numbers by their digits, in any base.
use Rattle.std.proofs.Common.{◌≡◌, ℕ, zero, suc, ◌+◌, ◌-◌, ◌*◌, ◌/◌, ◌%◌, ◌^◌, ◌<◌, sym, refl, ap, ◌∙◌, subst, ap₂, ⊎_elim, mod-eq_of_lt, mul_assoc, add_comm, mul-pos, pow-suc, add-one, arith, pow-add}
use native.Mathlib.Nat.{pow-zero, pow-succ', add-mul-div_right, add-mul-mod_self_right, mod-one}
use lib.Arith.{digits_lt, digits_div, mod-mul}
use Rattle.std.proofs.lemmas.Bool.{cases_order}
use Rattle.std.specs.Prelude.{map}
use Rattle.std.specs.List.{range_with_len, sum}
use Rattle.std.proofs.lemmas.List.FromFn.{sum_by-map-range_with_len_more}
use Rattle.cells.specs.Hall.{from_digits}

pub base_pos : (b n : ℕ) → 0 < b → 0 < b ^ n
base_pos b zero h = rw pow-zero (omega arith)
base_pos b (suc n) h = rw pow-suc (mul-pos (base_pos b n h) h)

-- digits that agree give the same number
pub digits_same : (b : ℕ) (d e : ℕ → ℕ) (n : ℕ) → ((j : ℕ) → j < n → d j ≡ e j) → from_digits b d n ≡ from_digits b e n
unfolding from_digits
digits_same b d e zero h = refl
digits_same b d e (suc n) h =
    ap₂ (λ u v. u * b ^ n + v) (h n (omega arith)) (digits_same b d e n (λ j l. h j (omega arith)))

-- the lowest n digits of a number
pub digits_of : (b c n : ℕ) → 0 < b → from_digits b (λ j. c / b ^ j % b) n ≡ c % b ^ n
unfolding from_digits
digits_of b c zero h = sym (rw pow-zero (mod-one c))
digits_of b c (suc n) h =
    rw (digits_of b c n h, pow-succ') (sym (mod-mul c h (base_pos b n h)))

-- what stands at digit m + 1 + j does not reach digit j
above_by : (b q r m j : ℕ) → 0 < b → (q * b ^ (m + 1 + j) + r) / b ^ j % b ≡ r / b ^ j % b
above_by b q r m j h =
    let f : b ^ (m + 1 + j) ≡ b ^ m * b * b ^ j = rw (pow-add, add-one, pow-suc) refl in
    let g : q * b ^ (m + 1 + j) + r ≡ r + q * b ^ m * b * b ^ j =
    rw (f, mul_assoc q (b ^ m) b, mul_assoc q (b ^ m * b) (b ^ j)) (add_comm (q * (b ^ m * b * b ^ j)) r) in
    rw (g, add-mul-div_right r (q * b ^ m * b) (base_pos b j h), add-mul-mod_self_right)

-- what stands at digit n and above does not reach a lower digit
pub above_digit : (b q r n j : ℕ) → 0 < b → j < n → (q * b ^ n + r) / b ^ j % b ≡ r / b ^ j % b
above_digit b q r n j h l =
    subst (λ k. (q * b ^ k + r) / b ^ j % b ≡ r / b ^ j % b) (omega arith) (above_by b q r (n - 1 - j) j h)

module _ (b : ℕ) (d : ℕ → ℕ) (small : (j : ℕ) → d j < b) where
  pub digits_below : (n : ℕ) → from_digits b d n < b ^ n
  unfolding from_digits
  digits_below zero = rw pow-zero (omega arith)
  digits_below (suc n) = rw pow-succ' (digits_lt (small n) (digits_below n))

  -- digit j of a number that is made of digits
  pub digit_at : (n j : ℕ) → j < n → from_digits b d n / b ^ j % b ≡ d j
  unfolding from_digits
  digit_at zero j h = absurd (omega arith)
  digit_at (suc n) j h =
      ⊎_elim
      (λ e. let f : d n ≡ d j = ap d (sym e) in rw (e, digits_div (d n) (digits_below n)) (mod-eq_of_lt (small n)))
      (⊎_elim (λ l. above_digit b (d n) (from_digits b d n) n j (omega (arith, small 0)) l ∙ digit_at n j l) (λ l. absurd (omega arith)))
      (cases_order j n)

-- the digits added up
pub digits_sum : (b : ℕ) (d : ℕ → ℕ) (n : ℕ) → sum (map (λ j. d j * b ^ j) (range_with_len 0 n)) ≡ from_digits b d n
unfolding from_digits
digits_sum b d zero = refl
digits_sum b d (suc n) =
    let m : suc n ≡ n + 1 = omega arith in
    ap (λ k. sum (map (λ j. d j * b ^ j) (range_with_len 0 k))) m
    ∙ sum_by-map-range_with_len_more (λ x. x) (λ j. d j * b ^ j) 0 n n (omega arith)
    ∙ ap (λ k. k + d n * b ^ n) (digits_sum b d n)
    ∙ add_comm (from_digits b d n) (d n * b ^ n)

-- one more digit
pub digits_more : (b : ℕ) (d : ℕ → ℕ) (n : ℕ) → from_digits b d (n + 1) ≡ from_digits b d n + d n * b ^ n
unfolding from_digits
digits_more b d n = rw add-one (add_comm (d n * b ^ n) (from_digits b d n))
