use Rattle.dag.proofs.Unique.{one_list_per_set}
use Rattle.dag.proofs.one_list_per_set.Goals as goal

pub returns : goal.returns
returns c = one_list_per_set
