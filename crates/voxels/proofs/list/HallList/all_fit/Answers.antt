use Rattle.std.proofs.Common.{below_more}
use Rattle.dag.specs.Judged.{NodePasses}
use Rattle.voxels.proofs.list.HallList.all_fit.Goals as goal

pub loop-n-preserved : goal.loop-n-preserved
loop-n-preserved g c =
    let ns = g.P.NodePool.nodes c.args.self.now.pool.now in
    below_more (NodePasses c.args.self.now.levels.count ns) c.loop-n.n c.loop-n.invariant (c.record_fits.ensures.0 c.if-not-record_fits.false)
