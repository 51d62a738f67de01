-- Worked cases of codes.
use Rattle.std.specs.Prelude.{◌≡◌}
use Rattle.cells.specs.Hall.{code_of, cell_at}
use Rattle.cells.specs.declared.hall.Cell.{Cell}

abbrev pub worked_cell : Cell
worked_cell = record { x = 3; y = 1; z = 2 }

-- cell (3, 1, 2) has code 43, and code 43 is that cell
abbrev pub CodeCase : Type 0
CodeCase = (code_of 2 worked_cell ≡ 43) × (cell_at 2 43 ≡ worked_cell)
