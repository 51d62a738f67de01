use Rattle.dag.proofs.Laws.{keeps_rules, none_twice}
use Rattle.dag.proofs.keeps_rules.Goals as goal

pub returns : goal.returns
returns c = record { rules = keeps_rules; none_twice = none_twice }
