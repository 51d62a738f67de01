use Rattle.std.proofs.Common.{◌≡◌, length, get_or, rules, arith}
use Rattle.std.proofs.lemmas.Iterator.{cases_from_all, YieldsList-from_range}
use Rattle.nodes.specs.Records.{blank}
use Rattle.twins.proofs.Records.{same_lists}
use Rattle.twins.proofs.compare.same_nodes.Goals as goal

pub returns-then-node_count : goal.returns-then-node_count
returns-then-node_count g c =
    let ns = g.P.NodePool.nodes c.args.a.now.pool in
    let ms = g.Q.NodePool.nodes c.args.b.now.pool in
    same_lists blank ns ms (omega arith) c.all.result
    (cases_from_all _ _ _ (λ n. get_or ns n blank ≡ get_or ms n blank) (λ n. get_or ns n blank ≡ get_or ms n blank → ⊥) c.all.ensures.ran (YieldsList-from_range 0 (length ns) (length ns) (cc) (omega arith)) (λ x q k. search rules) (λ x q k. search rules))
