-- Worked cases, by computing.
use Rattle.std.proofs.Common.{refl}
use Rattle.cells.specs.Hall.{from_digits}
use Rattle.cells.specs.Cases.{CodeCase}

pub code_case : CodeCase
unfolding from_digits
code_case = (refl, refl)
