-- What the one search answers.
use Rattle.std.specs.Prelude.{◌≡◌, ℕ, ◌<◌, List, Some, None, Option, ◌≢◌}
use Rattle.std.specs.List.{slice_get}

-- the lowest number of an entry that equals the wanted one, or absent where no entry does
abbrev pub Lowest : {X : Type 0} → List X → X → Option ℕ → Type 0
Lowest xs x None = (k : ℕ) → slice_get xs k ≢ Some x
Lowest xs x (Some n) = (slice_get xs n ≡ Some x) × ((k : ℕ) → k < n → slice_get xs k ≢ Some x)
