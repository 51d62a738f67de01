use Rattle.dag.proofs.Laws.{ranks_cells}
use Rattle.dag.proofs.ranks_cells.Goals as goal

pub returns : goal.returns
returns c = ranks_cells
