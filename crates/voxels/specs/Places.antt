-- What place and seal answer.
use Rattle.std.specs.Prelude.{◌≡◌, ℕ, ◌+◌, ◌-◌, ◌%◌, ◌^◌, ◌<◌, min, Bool, false, cond, not, ◌≢◌, List, length, Some, None, Option, count_ones, nat_le, nat_lt, slice_index}
use Rattle.cells.specs.Refusals.{Answer, gives, refuses, refuse_if, number_of}
use Rattle.nodes.specs.Records.{none}
use Rattle.tags.specs.Stores.{can_add}
use Rattle.dag.specs.Sets.{holds}
use Rattle.dag.specs.Sealed.{below, sealed}
use Rattle.dag.specs.Rows.{with_child}
use Rattle.voxels.specs.declared.phase.Phase.{Phase}
use Rattle.voxels.specs.declared.phase.Phase.TheVariants.{Void, Open, Sealed}
use Rattle.voxels.specs.declared.row.OpenRow.{OpenRow}
use Rattle.voxels.specs.Stages.{row_at}

-- whether a code is not above the last accepted one
abbrev pub not_above : Option ℕ → ℕ → Bool
not_above None code = false
not_above (Some last) code = nat_le code last

-- the number with which place refuses by the plain state and the code alone, if it does
abbrev pub place_early : Phase → ℕ → Option ℕ → ℕ → Option ℕ
place_early (Void refusal) L last code = Some (number_of refusal)
place_early Open L last code = cond (nat_le (8 ^ L) code) (Some 3) (cond (not_above last code) (Some 4) None)
place_early Sealed L last code = Some 2

-- and so seal
abbrev pub seal_early : Phase → Option ℕ
seal_early (Void refusal) = Some (number_of refusal)
seal_early Open = None
seal_early Sealed = Some 2

-- an answer keeps to an early refusal
abbrev pub Early : Option ℕ → Answer (Unit {0}) → Type 0
Early None a = Unit {0}
Early (Some n) a = a ≡ refuses n

-- what place answers on a map that stands for these cells: a code outside, one that is not above each accepted cell,
-- a pool too small for the list below the code, and a word that the store does not take
abbrev pub place_told : ℕ → List ℕ → ℕ → (List ℕ → Bool) → List ℕ → ℕ → ℕ → Answer (Unit {0})
place_told L cells capacity admits words code word =
    refuse_if (nat_le (8 ^ L) code) 3
    (refuse_if (holds cells code (8 ^ L)) 4
    (refuse_if (nat_lt capacity (length (below L cells code))) 6
    (refuse_if (not (can_add admits words word)) 7 (gives tt))))

-- what seal answers: a pool too small for the sealed list
abbrev pub seal_told : ℕ → List ℕ → ℕ → Answer (Unit {0})
seal_told L cells capacity = refuse_if (nat_lt capacity (length (sealed L cells))) 6 (gives tt)

-- the rows after a cell was taken: only that of level 1 changes
pub record CellTaken (rows : List OpenRow) (code : ℕ) (after : List OpenRow) : Type 0 where
  pub node : (row_at rows 0).node.mask < 2 ^ (code % 8) → slice_index (row_at rows 0).node.links (code % 8) ≡ none
      → (row_at after 0).node ≡ with_child (row_at rows 0).node (code % 8) none (count_ones ((row_at rows 0).node.mask % 2 ^ (code % 8)))
  pub count : (row_at after 0).count ≡ min ((row_at rows 0).count + 1) (2 ^ 32 - 1)
  pub others : (j : ℕ) → j ≢ 0 → row_at after j ≡ row_at rows j
