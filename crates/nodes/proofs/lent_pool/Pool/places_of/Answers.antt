use Rattle.std.proofs.Common.{arith, rules}
use Rattle.nodes.proofs.LentCalls.{part_at, part_inside}
use Rattle.nodes.proofs.lent_pool.Pool.places_of.Goals as goal

pub slice_bounds-result-end : goal.slice_bounds-result-end
slice_bounds-result-end g c =
    let inside = part_inside g.T.Place c.args.n c.args.self.now.count _ _ c.WIDTH.ensures c.if-n-self.true c.args.self.now.within in
    search rules

pub returns-then-n-self : goal.returns-then-n-self
returns-then-n-self g c =
    part_at g.T.Place c.args.n c.args.self.now.count _ _ c.args.self.now.places.now c.WIDTH.ensures (omega (arith, c.WIDTH-then-n-self.ensures)) c.if-n-self.true c.args.self.now.within
