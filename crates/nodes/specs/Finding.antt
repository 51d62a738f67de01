-- What the search for a record in a pool answers.
use Rattle.std.specs.Prelude.{◌≡◌, ℕ, ◌<◌, ◌≤◌, List, Some, None, Option, ◌≢◌}
use Rattle.std.specs.List.{slice_get}

-- the lowest number, at or above `from`, of an entry that equals the wanted one, or absent where there is none
abbrev pub LowestFrom : {X : Type 0} → ℕ → List X → X → Option ℕ → Type 0
LowestFrom from xs x None = (k : ℕ) → from ≤ k → slice_get xs k ≢ Some x
LowestFrom from xs x (Some n) = (from ≤ n) × (slice_get xs n ≡ Some x) × ((k : ℕ) → from ≤ k → k < n → slice_get xs k ≢ Some x)
