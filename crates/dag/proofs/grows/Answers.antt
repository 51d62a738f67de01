use Rattle.dag.proofs.Laws.{grows, ends, none_from_none}
use Rattle.dag.proofs.Depends.{below_depends}
use Rattle.dag.proofs.grows.Goals as goal

pub returns : goal.returns
returns c = record { begins = grows; ends = ends; depends = below_depends; none = none_from_none }
