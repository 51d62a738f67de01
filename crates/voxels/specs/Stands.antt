-- Which cells and tags a map stands for.
use Rattle.std.specs.Prelude.{◌≡◌, ℕ, ◌<◌, ◌≤◌, cond, not, List, [], map, length, Some, None, Option}
use Rattle.std.specs.List.{slice_get, AllByRecursion}
use Rattle.cells.specs.Refusals.{Answer, gives, refuse_if}
use Rattle.cells.specs.Hall.{cell_fits, code_of}
use Rattle.cells.specs.declared.hall.Cell.{Cell}
use Rattle.nodes.specs.declared.node.Node.{Node}
use Rattle.dag.specs.Sets.{CellSet, has, count}
use Rattle.dag.specs.Sealed.{sealed}
use Rattle.dag.specs.Rows.{empty_row}
use Rattle.voxels.specs.declared.phase.Phase.{Phase}
use Rattle.voxels.specs.declared.phase.Phase.TheVariants.{Open, Sealed}
use Rattle.voxels.specs.declared.found.Found.{Found}
use Rattle.voxels.specs.declared.row.OpenRow.{OpenRow}
use Rattle.voxels.specs.Stages.{row_at, AtStage}
use Rattle.voxels.specs.Finds.{ranked}

-- a sealed map stands for cells, in code order, and their tags: its node list is the sealed list of the cells,
-- and its words are the words of the tags
pub record SealedAs {K : Type 0} (word_of : K → ℕ) (L : ℕ) (cells : List ℕ) (tags : List K) (phase : Phase) (levels : ℕ) (ns : List Node) (words : List ℕ) : Type 0 where
  pub phase_is : phase ≡ Sealed
  pub levels_are : levels ≡ L
  pub set : CellSet L cells
  pub list : ns ≡ sealed L cells
  pub words_are : words ≡ map word_of tags
  pub tag_each : length tags ≡ length cells

-- what a map that stands for these cells and tags has at a code: free where no cell stands,
-- and otherwise the number of cells with smaller codes and the cell's tag
abbrev pub stands_at : {K : Type 0} → List ℕ → List K → ℕ → Option (Found K)
stands_at cells tags code = cond (has cells code) (ranked (count cells 0 code) (slice_get tags (count cells 0 code))) None

-- and so what look answers
abbrev pub look_told : {K : Type 0} → ℕ → List ℕ → List K → Cell → Answer (Option (Found K))
look_told L cells tags cell = refuse_if (not (cell_fits L cell)) 3 (gives (stands_at cells tags (code_of L cell)))

-- rows in which no cell is yet
abbrev pub EmptyRows : List OpenRow → Type 0
EmptyRows rows = (j : ℕ) → j < 10 → ((row_at rows j).node ≡ empty_row j) × ((row_at rows j).count ≡ 0)

-- the list and the rows of an open map, by its last accepted code: without one it has no cells, no records and empty rows;
-- with one, m, its list is that of the sub-cubes below m, and each row is the beginning of the record of m's sub-cube
abbrev pub Building : ℕ → List ℕ → Option ℕ → List Node → List OpenRow → Type 0
Building L cells None ns rows = (cells ≡ []) × (ns ≡ []) × EmptyRows rows
Building L cells (Some m) ns rows = AllByRecursion (λ c. c ≤ m) cells × AtStage L cells m 0 ns rows

-- an open map stands for cells, in code order, and their tags
pub record OpenAs {K : Type 0} (word_of : K → ℕ) (L : ℕ) (cells : List ℕ) (tags : List K) (phase : Phase) (levels : ℕ) (last : Option ℕ) (ns : List Node) (rows : List OpenRow) (words : List ℕ) : Type 0 where
  pub phase_is : phase ≡ Open
  pub levels_are : levels ≡ L
  pub set : CellSet L cells
  pub building : Building L cells last ns rows
  pub words_are : words ≡ map word_of tags
  pub tag_each : length tags ≡ length cells
