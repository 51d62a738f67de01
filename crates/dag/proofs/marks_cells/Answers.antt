use Rattle.dag.proofs.Laws.{marks_cells}
use Rattle.dag.proofs.marks_cells.Goals as goal

pub returns : goal.returns
returns c = marks_cells
