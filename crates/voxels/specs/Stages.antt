-- A map that takes cells by rising code, at a stage of the closing: its list and its open rows.
use Rattle.std.specs.Prelude.{◌≡◌, ℕ, suc, ◌+◌, ◌^◌, ◌<◌, ◌≤◌, true, ◌≢◌, List, [], length, Ok, Err, Result, slice_index_or}
use Rattle.cells.specs.declared.refusal.Refusal.{Refusal}
use Rattle.cells.specs.Refusals.{number_of}
use Rattle.cells.specs.SubCubes.{sub_cube}
use Rattle.nodes.specs.declared.node.Node.{Node}
use Rattle.dag.specs.Sets.{count, has}
use Rattle.dag.specs.Records.{lowest, record_of}
use Rattle.dag.specs.Sealed.{written, below}
use Rattle.dag.specs.Rows.{staged, stage_row, stage_count}
use Rattle.voxels.specs.declared.row.OpenRow.{OpenRow}

-- what stands past the last row
abbrev pub no_row : OpenRow
no_row = record { node = record { level = 0; mask = 0; links = []; offsets = [] }; count = 0 }

abbrev pub row_at : List OpenRow → ℕ → OpenRow
row_at rows j = slice_index_or rows j no_row

-- the state of a map with L levels and these cells, whose last cell is m, with levels 1 to r closed
pub record AtStage (L : ℕ) (cells : List ℕ) (m r : ℕ) (ns : List Node) (rows : List OpenRow) : Type 0 where
  -- no cell is above m
  pub last : (b : ℕ) → count cells (m + 1) b ≡ 0
  -- m is a cell
  pub placed : has cells m ≡ true
  -- the cells can be counted in 32 bits
  pub few : (a b : ℕ) → count cells a b ≤ 2 ^ 30
  pub list : ns ≡ staged L cells m r
  pub nodes : (j : ℕ) → j < L → (row_at rows j).node ≡ stage_row cells ns m r j
  pub counts : (j : ℕ) → j < L → (row_at rows j).count ≡ stage_count cells m r j

-- a record and its number: the lowest of an equal one, and where there is none the record is added, if there is room
abbrev pub Numbered : List Node → ℕ → Node → List Node → Result ℕ Refusal → Type 0
Numbered ns capacity node ms (Ok n) = (n ≡ lowest ns node) × (ms ≡ written ns node)
Numbered ns capacity node ms (Err e) = (number_of e ≡ 6) × (ms ≡ ns) × (capacity ≤ length ns) × (length ns ≤ lowest ns node)

-- one level is closed: from stage r to stage r + 1; a refusal leaves all as it was, and the record to write was new and found no room
abbrev pub Stepped : ℕ → ℕ → ℕ → List Node → ℕ → List OpenRow → List Node → List OpenRow → Result (Unit {0}) Refusal → Type 0
Stepped L m r ns capacity rows ms after (Ok v) =
    (cells : List ℕ) → AtStage L cells m r ns rows → AtStage L cells m (r + 1) ms after
Stepped L m r ns capacity rows ms after (Err e) =
    (number_of e ≡ 6) × (ms ≡ ns) × (after ≡ rows)
    × ((cells : List ℕ) → AtStage L cells m r ns rows
    → (capacity ≤ length (staged L cells m r)) × (length (staged L cells m r) ≤ lowest (staged L cells m r) (record_of cells (staged L cells m r) r (sub_cube (suc r) m))))

-- all that ends below a code is closed: the levels at which m and the code part
pub record Closed (L : ℕ) (cells : List ℕ) (m code : ℕ) (ns : List Node) (rows : List OpenRow) : Type 0 where
  pub list : ns ≡ below L cells code
  pub level : ℕ
  pub within : level ≤ L
  pub parted : sub_cube level m ≢ sub_cube level code
  pub together : level < L → sub_cube (suc level) m ≡ sub_cube (suc level) code
  pub stage : AtStage L cells m level ns rows
