-- What a condition lets through, and what is made from numbers.
use Rattle.std.specs.Prelude.{◌≡◌, ℕ, Some, None, Ok, Err, Option, Result, refl}
use Rattle.std.proofs.Common.{ap, arith}
use Rattle.std.specs.Result.{result_ok}
use Rattle.cells.specs.declared.refusal.Refusal.{Refusal}
use Rattle.cells.specs.Refusals.{answer}
use Rattle.tags.specs.Making.{only_if, made}

pub some_same : {A : Type 0} (a b : A) → Some a ≡ Some b → a ≡ b
some_same a b e = cc

pub only_if_yes : {P A : Type 0} → IsProp P → (d : Dec P) (next : P → Option A) (h : P) → only_if d next ≡ next h
only_if_yes one (yes k) next h = ap next (one k h)
only_if_yes one (no k) next h = absurd (k h)

pub only_if_no : {P A : Type 0} (d : Dec P) (next : P → Option A) → (P → ⊥) → only_if d next ≡ None
only_if_no (yes k) next h = absurd (h k)
only_if_no (no k) next h = refl

pub only_if_some : {P A : Type 0} (d : Dec P) (next : P → Option A) (a : A) → only_if d next ≡ Some a → (h : P) × (next h ≡ Some a)
only_if_some (yes k) next a e = (k, e)
only_if_some (no k) next a e = let z : ◌≡◌ {A = ℕ} 0 1 = cc in absurd (omega arith)

-- what was made is what the numbers make
pub ok_from_made : {A : Type 0} (r : Result A Refusal) (o : Option A) → answer r ≡ made o → result_ok r ≡ o
ok_from_made (Ok a) (Some b) e = let same : a ≡ b = cc in ap (λ x. Some x) same
ok_from_made (Ok a) None e = let z : ◌≡◌ {A = ℕ} 0 1 = cc in absurd (omega arith)
ok_from_made (Err x) (Some b) e = let z : ◌≡◌ {A = ℕ} 0 1 = cc in absurd (omega arith)
ok_from_made (Err x) None e = refl
