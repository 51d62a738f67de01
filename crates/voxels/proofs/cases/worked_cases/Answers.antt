use Rattle.cells.proofs.Cases.{code_case}
use Rattle.dag.proofs.Cases.{three_cells, full_hall, three_records, no_cells}
use Rattle.tags.proofs.TagWorked as worked
use Rattle.voxels.proofs.SmallPool.{one_record}
use Rattle.voxels.proofs.cases.worked_cases.Goals as goal

pub returns : goal.returns
returns c = record {
  code = code_case;
  three_cells = three_cells;
  full_hall = full_hall;
  three_records = three_records;
  no_cells = no_cells;
  top_load_case = worked.top_load_word;
  seventeenth = worked.seventeenth_refused;
  single_changed = worked.single_changed;
  one_record = one_record;
}
