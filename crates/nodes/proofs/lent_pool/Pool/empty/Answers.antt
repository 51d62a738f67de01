use Rattle.std.proofs.Common.{arith, ◌∙◌}
use Rattle.nodes.proofs.LentCalls.{nodes_none}
use Rattle.nodes.proofs.lent_pool.Pool.empty.Goals as goal

pub returns-clause-list : goal.returns-clause-list
returns-clause-list g c = c.over.ensures.list ∙ nodes_none g.T.Place _ c.args.places.now (omega arith)
