-- Entries of a list by their number.
use Rattle.std.proofs.Common.{◌≡◌, ℕ, ◌<◌, ◌≤◌, List, length, Some, None, Option, MatchOption, sym, ◌∙◌, ⊎_elim, arith}
use Rattle.std.specs.List.{slice_get}
use Rattle.std.proofs.lemmas.Option.{slice_get_past}
use Rattle.std.proofs.lemmas.Bool.{cases_lt}
use Rattle.cells.specs.Rows.{Lowest}

-- an entry that is there has a number below the length
pub nth_inside : {X : Type 0} (xs : List X) (k : ℕ) (x : X) → slice_get xs k ≡ Some x → k < length xs
nth_inside xs k x e =
    ⊎_elim (λ h. h) (λ h. let p : None ≡ Some x = sym (slice_get_past xs k h) ∙ e in let z : ◌≡◌ {A = ℕ} 0 1 = cc in omega arith)
    (cases_lt k (length xs))

-- the first number that has the entry, of those from 0 and below the length, is the lowest of all
pub lowest_below : {X : Type 0} (xs : List X) (x : X) (s n : ℕ) → s ≡ 0 → n ≡ length xs → (o : Option ℕ)
    → MatchOption o ((k : ℕ) → s ≤ k → k < n → slice_get xs k ≡ Some x → ⊥) (λ i. (s ≤ i) × (i < n) × (slice_get xs i ≡ Some x) × ((k : ℕ) → s ≤ k → k < i → slice_get xs k ≡ Some x → ⊥))
    → Lowest xs x o
lowest_below xs x s n first long None h = λ k e. h k (omega (arith, first)) (omega (arith, long, nth_inside xs k x e)) e
lowest_below xs x s n first long (Some i) h = (h.2, λ k l. h.3 k (omega (arith, first)) l)
