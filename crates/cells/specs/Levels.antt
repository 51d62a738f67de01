-- Levels made from a number.
use Rattle.std.specs.Prelude.{◌≡◌, ℕ, not, Ok, Err, Result}
use Rattle.cells.specs.Refusals.{Answer, gives, refuses, refuse_if, number_of}
use Rattle.cells.specs.Hall.{levels_fit}
use Rattle.cells.specs.declared.refusal.Refusal.{Refusal}
use Rattle.cells.specs.declared.levels.Levels.{Levels}

-- levels shown as an answer, by their number
abbrev pub levels_answer : Result Levels Refusal → Answer ℕ
levels_answer (Ok levels) = gives levels.count
levels_answer (Err e) = refuses (number_of e)

-- the levels of a number: 1 to 10 are good, and any other is refused with 1
abbrev pub LevelsOf : ℕ → Result Levels Refusal → Type 0
LevelsOf n result = levels_answer result ≡ refuse_if (not (levels_fit n)) 1 (gives n)
