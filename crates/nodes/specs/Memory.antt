-- What lent memory holds.
use Rattle.std.specs.Prelude.{ℕ, ◌-◌, List, ◌++◌, length, replicate}

-- memory that holds a list, then blanks up to the capacity, then what lies behind it
abbrev pub laid : {X : Type 0} → X → List X → ℕ → List X → List X
laid empty list capacity behind = list ++ (replicate (capacity - length list) empty ++ behind)
