-- The way down from the root to the cells of a box.
use Rattle.std.specs.Prelude.{◌≡◌, ℕ, ◌+◌, ◌-◌, ◌*◌, ◌/◌, ◌%◌, ◌^◌, ◌<◌, ◌≤◌, true, false, cond, ◌⊎◌, List, length, Some, None}
use Rattle.cells.specs.Hall.{cell_at}
use Rattle.cells.specs.SubCubes.{sub_cube}
use Rattle.cells.specs.Boxes.{box_holds}
use Rattle.cells.specs.declared.hall.Cell.{Cell}
use Rattle.cells.specs.declared.boxes.CellBox.{CellBox}
use Rattle.nodes.specs.declared.node.Node.{Node}
use Rattle.dag.specs.Walk.{walk, path, total}
use Rattle.voxels.specs.declared.visit.Visit.{Visit}
use Rattle.voxels.specs.Finds.{found}

-- the place of the sub-cube of level k that a cell lies in, counted in sub-cubes
abbrev pub shrunk : ℕ → Cell → Cell
shrunk k c = record { x = c.x / 2 ^ k; y = c.y / 2 ^ k; z = c.z / 2 ^ k }

-- the places of the sub-cubes of level k that meet a box
abbrev pub shrunk_box : ℕ → CellBox → CellBox
shrunk_box k bounds = record { low = shrunk k bounds.low; high = shrunk k bounds.high }

-- the place of child i of a sub-cube
abbrev pub child_place : Cell → ℕ → Cell
child_place at i = record { x = 2 * at.x + i % 2; y = 2 * at.y + i / 2 % 2; z = 2 * at.z + i / 4 }

-- no hall has more than 1,024 cells along an axis
pub record Near (at : Cell) : Type 0 where
  pub x : at.x < 1024
  pub y : at.y < 1024
  pub z : at.z < 1024

-- a visit that can be gone on with
pub record Ready (ns : List Node) (visit : Visit) : Type 0 where
  pub level : visit.level ≤ 10
  pub node : visit.node < length ns
  pub rank : visit.rank ≤ (10 - visit.level) * 2 ^ 32
  pub near : Near visit.at

-- a visit to sub-cube s of its level: it meets the box, its cells lie at its place, and the walk to each of its codes goes on from its record
pub record Visits (L : ℕ) (ns : List Node) (bounds : CellBox) (s : ℕ) (visit : Visit) : Type 0 where
  pub within : visit.level ≤ L
  pub meets : box_holds (shrunk_box visit.level bounds) visit.at ≡ true
  pub lies : (code : ℕ) → sub_cube visit.level code ≡ s → shrunk visit.level (cell_at L code) ≡ visit.at
  pub finds : (code : ℕ) → sub_cube visit.level code ≡ s
      → found L ns code ≡ cond (walk ns visit.level visit.node code) (Some (visit.rank + total (path ns visit.level visit.node code))) None

-- sub-cube s of level k has no occupied cell of the box
abbrev pub Nothing : ℕ → List Node → CellBox → ℕ → ℕ → Type 0
Nothing L ns bounds k s = (code : ℕ) → sub_cube k code ≡ s → (box_holds bounds (cell_at L code) ≡ false) ⊎ (found L ns code ≡ None)
