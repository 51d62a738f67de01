use Rattle.dag.proofs.Fewest.{fewest_records}
use Rattle.dag.proofs.fewest_records.Goals as goal

pub returns : goal.returns
returns c = fewest_records
