use Rattle.dag.proofs.Cases.{three_cells, full_hall, three_records, no_cells}
use Rattle.dag.proofs.worked_halls.Goals as goal

pub returns : goal.returns
returns c = record { three_cells = three_cells; full_hall = full_hall; three_records = three_records; no_cells = no_cells }
