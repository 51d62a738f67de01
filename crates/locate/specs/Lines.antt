-- What a line of the file points at.
use Rattle.std.specs.Prelude.{ℕ, ◌^◌, cond, not, ◌&&◌, List, [], ◌∷◌, ◌++◌, codes, decimal, drop, Some, None, Option, ◌==◌, nat_le, slice_index}
use Rattle.cells.specs.Refusals.{Answer, gives, refuses, refuse_if}
use Rattle.cells.specs.Hall.{levels_fit, cell_fits, code_of, cell_at}
use Rattle.cells.specs.declared.hall.Cell.{Cell}
use Rattle.cells.specs.Texts.{cell_text}
use Rattle.text.specs.Numbers.{number_in}
use Rattle.locate.specs.declared.line.Place.{Place}

-- what is printed for a place
abbrev pub place_text : Place → List ℕ
place_text place = codes "cell " ++ (cell_text place.cell ++ (codes " code " ++ decimal place.code))

-- a field that is no number makes its line a wrong line
abbrev pub with_number : {A : Type 0} → Option ℕ → (ℕ → Answer A) → Answer A
with_number None next = refuses 12
with_number (Some n) next = next n

-- the place of a code
abbrev pub code_place : ℕ → ℕ → Answer Place
code_place L n = refuse_if (not (levels_fit L)) 1 (refuse_if (nat_le (8 ^ L) n) 3 (gives (record { cell = cell_at L n; code = n })))

-- the place of a cell
abbrev pub cell_place : ℕ → Cell → Answer Place
cell_place L c = refuse_if (not (levels_fit L)) 1 (refuse_if (not (cell_fits L c)) 3 (gives (record { cell = c; code = code_of L c })))

-- three fields that are numbers name a cell
abbrev pub with_cell : {A : Type 0} → Option ℕ → Option ℕ → Option ℕ → (Cell → Answer A) → Answer A
with_cell x y z next = with_number x (λ x. with_number y (λ y. with_number z (λ z. next (record { x = x; y = y; z = z }))))

-- what a line answers, by its fields: one number is a code, three are a cell, and anything else is a wrong line
abbrev pub line_answer : ℕ → List (List ℕ) → Answer Place
line_answer L [] = refuses 12
line_answer L (a ∷ []) = with_number (number_in 10 a) (code_place L)
line_answer L (a ∷ b ∷ []) = refuses 12
line_answer L (a ∷ b ∷ c ∷ []) = with_cell (number_in 6 a) (number_in 6 b) (number_in 6 c) (cell_place L)
line_answer L (a ∷ b ∷ c ∷ d ∷ more) = refuses 12

-- the rest of a first line: what follows the letter L and one space
abbrev pub first_field : List ℕ → Option (List ℕ)
first_field line = cond (slice_index line 0 == 76 && slice_index line 1 == 32) (Some (drop 2 line)) None

-- the levels that a field names
abbrev pub levels_in : Option (List ℕ) → Answer ℕ
levels_in None = refuses 12
levels_in (Some field) = with_number (number_in 6 field) (λ L. refuse_if (not (levels_fit L)) 1 (gives L))

-- the levels that the first line names
abbrev pub levels_answer : List ℕ → Answer ℕ
levels_answer line = levels_in (first_field line)
