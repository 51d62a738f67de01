use Rattle.std.proofs.Common.{sym, ap, ◌∙◌}
use Rattle.std.specs.Option.{unwrap_or}
use Rattle.std.proofs.lemmas.Bool.{eqb-true, eq-eqb}
use Rattle.voxels.proofs.Judges.{lowest_or}
use Rattle.voxels.proofs.judge.records.stands_alone.Goals as goal

pub returns : goal.returns
returns g c =
    let ns = g.P.NodePool.nodes c.args.pool.now in
    let e = c.unwrap_or.ensures ∙ ap (unwrap_or c.find.result) c.count.ensures ∙ lowest_or ns c.args.node.now c.find.result c.find.ensures in
    (λ t. sym e ∙ eqb-true _ _ t, λ l. eq-eqb _ _ (e ∙ l))
