use Rattle.std.proofs.Common.{arith}
use Rattle.nodes.specs.LentPools.{span_inside}
use Rattle.nodes.proofs.Blanks.{filled}
use Rattle.nodes.proofs.LentCalls.{spanned, span_le}
use Rattle.nodes.proofs.lent_pool.blank_out.Goals as goal

pub returns : goal.returns
returns g c =
    let place = g.T.Place in
    let from = spanned place c.WIDTH.result c.args.from c.WIDTH.ensures in
    let to = spanned place c.WIDTH-2.result c.args.to c.WIDTH-2.ensures in
    filled c.args.places.now c.fill.new.self c.empty.result place.empty _ _ (place.span c.args.from) (place.span c.args.to)
    from (omega (arith, from, to)) (span_le place c.args.from c.args.to c.requires.ordered) (span_inside place c.args.to _ c.requires.inside) c.empty.ensures
    (c.fill.ensures.after (g.met.T.Place.copied c.empty.result))
