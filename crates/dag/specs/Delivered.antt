-- A list as it was delivered: is it the sealed list of some set of cells, and of which?
use Rattle.std.specs.Prelude.{◌≡◌, ℕ, zero, suc, ◌^◌, ◌≤◌, cond, List, [], ◌∷◌, ◌++◌}
use Rattle.nodes.specs.declared.node.Node.{Node}
use Rattle.dag.specs.Sets.{CellSet}
use Rattle.dag.specs.Walk.{marks}
use Rattle.dag.specs.Sealed.{sealed}
use Rattle.dag.specs.Laws.{Nameable}

-- some set of cells seals to the list
abbrev pub Seals : ℕ → List Node → Type 0
Seals L ns = (cells : List ℕ) × CellSet L cells × (ns ≡ sealed L cells)

-- the codes below c that the list marks, rising
unfoldable pub marked_below : ℕ → List Node → ℕ → List ℕ
marked_below L ns zero = []
marked_below L ns (suc c) = marked_below L ns c ++ cond (marks L ns c) (c ∷ []) []

-- the cells that the list marks
abbrev pub marked : ℕ → List Node → List ℕ
marked L ns = marked_below L ns (8 ^ L)

-- the cells that a list marks are a set of cells
abbrev pub MarkedSet : Type 0
MarkedSet = (L : ℕ) (ns : List Node) → CellSet L (marked L ns)

-- a set of cells that seals to a list is the set of the cells that the list marks
abbrev pub SealsMarked : Type 0
SealsMarked = (L : ℕ) (ns : List Node) (cells : List ℕ) → 1 ≤ L → Nameable ns → CellSet L cells → ns ≡ sealed L cells → cells ≡ marked L ns
