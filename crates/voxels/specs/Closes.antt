-- What closing the rows up to a code leaves, with the pool as it was where it is refused.
use Rattle.std.specs.Prelude.{◌≡◌, ℕ, ◌<◌, ◌≤◌, ◌⊎◌, List, length, Some, None, Ok, Err, Option, Result}
use Rattle.cells.specs.declared.refusal.Refusal.{Refusal}
use Rattle.cells.specs.Refusals.{number_of}
use Rattle.nodes.specs.declared.node.Node.{Node}
use Rattle.nodes.specs.Pools.{Memory}
use Rattle.dag.specs.Sealed.{below}
use Rattle.voxels.specs.declared.row.OpenRow.{OpenRow}
use Rattle.voxels.specs.Stages.{AtStage, Closed}

-- the list and the memory of a pool are as they were
abbrev pub SamePool : List Node → Memory → List Node → Memory → Type 0
SamePool ns memory ms after = (ms ≡ ns) × (after ≡ memory)

-- the rows that are left; a refusal has number 6, and leaves the pool as it was
abbrev pub ClosedRows : ℕ → ℕ → ℕ → List Node → Memory → ℕ → List OpenRow → List Node → Memory → Result (List OpenRow) Refusal → Type 0
ClosedRows L m code ns memory capacity rows ms after (Ok left) =
    (cells : List ℕ) → AtStage L cells m 0 ns rows → Closed L cells m code ms left
ClosedRows L m code ns memory capacity rows ms after (Err e) =
    SamePool ns memory ms after × (number_of e ≡ 6) × ((cells : List ℕ) → AtStage L cells m 0 ns rows → capacity < length (below L cells code))

-- the rows for a cell that is to be taken: those that are there where there is no cell yet, and otherwise those that closing leaves;
-- a code that is not above the last one is refused with 4
abbrev pub RowsFor : ℕ → ℕ → Option ℕ → List Node → Memory → ℕ → List OpenRow → List Node → Memory → Result (List OpenRow) Refusal → Type 0
RowsFor L code None ns memory capacity rows ms after (Ok left) = SamePool ns memory ms after × (left ≡ rows)
RowsFor L code None ns memory capacity rows ms after (Err e) = ⊥
RowsFor L code (Some m) ns memory capacity rows ms after (Ok left) = (m < code) × ClosedRows L m code ns memory capacity rows ms after (Ok left)
RowsFor L code (Some m) ns memory capacity rows ms after (Err e) =
    SamePool ns memory ms after × (((code ≤ m) × (number_of e ≡ 4)) ⊎ ((m < code) × ClosedRows L m code ns memory capacity rows ms after (Err e)))
