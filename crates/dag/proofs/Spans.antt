-- Which codes a sub-cube spans, and which codes end one.
use Rattle.std.proofs.Common.{◌≡◌, ℕ, zero, suc, ◌+◌, ◌-◌, ◌*◌, ◌/◌, ◌%◌, ◌^◌, ◌<◌, ◌≤◌, true, false, sym, ap, ◌∙◌, ⊎_elim, mul-le-mul_right, mod-lt, suc-mul, pow-suc, div-add-mod', le-div_iff_mul-le, zero-mul, mul-add, div-mul-le_self, add-one, arith}
use native.Mathlib.Nat.{lt-div-mul-add, div-div-eq-div-mul}
use lib.Arith.{digits_div}
use Rattle.std.proofs.lemmas.Bool.{eqb-true, eqb-false, cases_lt}
use Rattle.cells.specs.SubCubes.{sub_cube}
use Rattle.cells.proofs.Digits.{base_pos}
use Rattle.dag.specs.Records.{first}
use Rattle.dag.specs.Sealed.{ends}
use Rattle.dag.proofs.Visits.{times_eight}

pub first_le : (k s t : ℕ) → s ≤ t → first k s ≤ first k t
first_le k s t h = mul-le-mul_right (8 ^ k) h

-- the eight children of a sub-cube span its codes
pub first_next : (k s : ℕ) → first (suc k) (s + 1) ≡ first k (8 * s + 8)
first_next k s = times_eight k (s + 1) ∙ ap (λ m. m * 8 ^ k) (mul-add 8 s 1)

pub child_from : (k s i : ℕ) → first (suc k) s ≤ first k (8 * s + i)
child_from k s i =
    let e = times_eight k s in
    let l = first_le k (8 * s) (8 * s + i) (omega arith) in
    omega arith

pub child_to : (k s i : ℕ) → i < 8 → first k (8 * s + i + 1) ≤ first (suc k) (s + 1)
child_to k s i h =
    let e = first_next k s in
    let l = first_le k (8 * s + i + 1) (8 * s + 8) (omega arith) in
    omega arith

-- ---- the sub-cube that a code lies in

pub span_from : (k c : ℕ) → first k (sub_cube k c) ≤ c
span_from k c = div-mul-le_self c (8 ^ k)

pub span_to : (k c : ℕ) → c < first k (sub_cube k c + 1)
span_to k c =
    let l = lt-div-mul-add {a = c} {b = 8 ^ k} (base_pos 8 k (omega arith)) in
    let e = suc-mul (c / 8 ^ k) (8 ^ k) in
    rw (add-one (c / 8 ^ k)) (omega arith)

-- one level up, the sub-cube is an eighth of the number
pub up : (k c : ℕ) → sub_cube (suc k) c ≡ sub_cube k c / 8
up k c = ap (λ n. c / n) (pow-suc 8 k) ∙ sym (div-div-eq-div-mul c (8 ^ k) 8)

pub sub_cube_le : (k a b : ℕ) → a ≤ b → sub_cube k a ≤ sub_cube k b
sub_cube_le k a b h =
    (le-div_iff_mul-le {k = 8 ^ k} {x = sub_cube k a} {y = b} (base_pos 8 k (omega arith))).1 (omega (arith, span_from k a))

-- ---- the code that ends a sub-cube

last_div : (p q e : ℕ) → 0 < p → q * p ≡ e + 1 → e / p + 1 ≡ q
last_div p zero e h g = absurd (omega (arith, zero-mul p))
last_div p (suc q) e h g =
    let m = suc-mul q p in
    let f : e ≡ q * p + (p - 1) = omega arith in
    rw (f, digits_div q {m = p} {r = p - 1} (omega arith)) (add-one q)

inner_div : (p q r e : ℕ) → q * p + r ≡ e + 1 → 0 < r → r < p → e / p ≡ q
inner_div p q r e g h l =
    let f : e ≡ q * p + (r - 1) = omega arith in
    rw f (digits_div q {m = p} {r = r - 1} (omega arith))

module _ (k e : ℕ) where
  -- after the last code of a sub-cube the next one begins
  pub ends_next : ends k e ≡ true → sub_cube k (e + 1) ≡ sub_cube k e + 1
  ends_next h =
      let z = eqb-true ((e + 1) % 8 ^ k) 0 h in
      let d = div-add-mod' (e + 1) (8 ^ k) in
      sym (last_div (8 ^ k) ((e + 1) / 8 ^ k) e (base_pos 8 k (omega arith)) (omega arith))

  pub ends_code : ends k e ≡ true → first k (sub_cube k e + 1) ≡ e + 1
  ends_code h =
      let z = eqb-true ((e + 1) % 8 ^ k) 0 h in
      let d = div-add-mod' (e + 1) (8 ^ k) in
      rw (← ends_next h) (omega arith)

  -- after any other code it goes on
  pub goes_on : ends k e ≡ false → sub_cube k (e + 1) ≡ sub_cube k e
  goes_on h =
      let z = eqb-false ((e + 1) % 8 ^ k) 0 h in
      let d = div-add-mod' (e + 1) (8 ^ k) in
      let l = mod-lt (e + 1) {m = 8 ^ k} (base_pos 8 k (omega arith)) in
      sym (inner_div (8 ^ k) ((e + 1) / 8 ^ k) ((e + 1) % 8 ^ k) e d
      (⊎_elim (λ p. p) (λ p. absurd (z (omega arith))) (cases_lt 0 ((e + 1) % 8 ^ k))) l)
