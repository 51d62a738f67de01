use Rattle.dag.proofs.Judging.{passes_seals, seals_passes}
use Rattle.dag.proofs.judges_lists.Goals as goal

pub returns : goal.returns
returns c = record { seals = passes_seals; passes = seals_passes }
