-- What is printed for a cell.
use Rattle.std.specs.Prelude.{ℕ, List, ◌++◌, codes, decimal}
use Rattle.cells.specs.declared.hall.Cell.{Cell}

-- the three coordinates with a space between them
abbrev pub cell_text : Cell → List ℕ
cell_text cell = decimal cell.x ++ (codes " " ++ (decimal cell.y ++ (codes " " ++ decimal cell.z)))
