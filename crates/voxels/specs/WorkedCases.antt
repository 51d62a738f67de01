-- Worked cases of the definitions, a line each.
use Rattle.cells.specs.Cases.{CodeCase}
use Rattle.tags.specs.TagCases.{TopLoadWord, SeventeenthRefused, SingleChanged}
use Rattle.dag.specs.Cases.{ThreeCells, FullHall, ThreeRecords, NoCells}
use Rattle.voxels.specs.OneRecord.{OneRecord}

pub record WorkedCases : Type 0 where
  -- cell (3, 1, 2) has code 43, and back
  pub code : CodeCase
  -- 1 level, cells 0, 3 and 7: one record
  pub three_cells : ThreeCells
  -- 2 levels, all 64 cells: two records
  pub full_hall : FullHall
  -- 2 levels, cells 0, 8 and 17: three records
  pub three_records : ThreeRecords
  -- no cells: no records
  pub no_cells : NoCells
  -- load 6,300 in zone 255 has word 2,095,260
  pub top_load_case : TopLoadWord
  -- sixteen different words in a palette block: a seventeenth is refused
  pub seventeenth : SeventeenthRefused
  -- and changing a word that occurs once to it is accepted
  pub single_changed : SingleChanged
  -- 2 levels, capacity 1: places 0, 8, 17 are accepted, 63 is refused with 6, 18 is accepted, seal is refused with 6
  pub one_record : OneRecord
