use Rattle.dag.proofs.Marked.{marked_set, seals_marked}
use Rattle.dag.proofs.marked_cells.Goals as goal

pub returns : goal.returns
returns c = record { rising = marked_set; same = seals_marked }
