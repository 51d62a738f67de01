-- What judging a delivered list answers.
use Rattle.std.specs.Prelude.{◌≡◌, ℕ, ◌<◌, ◌≤◌, List, length, Some, None, Option}
use Rattle.nodes.specs.declared.node.Node.{Node}
use Rattle.dag.specs.Delivered.{Seals, marked}

-- a number of records met: the one defined, if that is within the list, and absent if it is past the list
abbrev pub Met : ℕ → ℕ → Option ℕ → Type 0
Met count met None = count < met
Met count met (Some n) = (n ≡ met) × (n ≤ count)

-- what judging answers: the number of cells of the set that seals to the list, or absent if none does
abbrev pub Judged : ℕ → List Node → Option ℕ → Type 0
Judged L ns None = Seals L ns → ⊥
Judged L ns (Some n) = Seals L ns × (n ≡ length (marked L ns))
