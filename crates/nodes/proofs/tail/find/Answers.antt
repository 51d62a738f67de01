use Rattle.std.proofs.Common.{rules}
use Rattle.nodes.proofs.Finds.{lowest_from}
use Rattle.nodes.proofs.tail.find.Goals as goal

pub returns : goal.returns
returns g c = lowest_from c.args.from _ c.args.wanted.now c.search.result c.map.result c.search.ensures (search rules)
