-- What an answer tells of the checks before it.
use Rattle.std.proofs.Common.{◌≡◌, ℕ, Bool, true, false, not, refl, arith}
use Rattle.cells.specs.Refusals.{Answer, gives, refuses, refuse_if}

-- where a call gave a value, the check before it did not refuse
pub passed : {A : Type 0} (b : Bool) (n : ℕ) (next : Answer A) (v : A) → gives v ≡ refuse_if b n next → (b ≡ false) × (gives v ≡ next)
passed true n next v e = let z : ◌≡◌ {A = ℕ} 0 1 = cc in absurd (omega arith)
passed false n next v e = (refl, e)

-- a check that does not refuse leaves the answer to what comes next
pub goes_on : {A : Type 0} (b : Bool) (n : ℕ) (next : Answer A) → b ≡ true → refuse_if (not b) n next ≡ next
goes_on true n next e = refl
goes_on false n next e = let z : ◌≡◌ {A = ℕ} 0 1 = cc in absurd (omega arith)

-- a check whose condition holds refuses
pub stops : {A : Type 0} (b : Bool) (n : ℕ) (next : Answer A) → b ≡ true → refuse_if b n next ≡ refuses n
stops true n next e = refl
stops false n next e = let z : ◌≡◌ {A = ℕ} 0 1 = cc in absurd (omega arith)
