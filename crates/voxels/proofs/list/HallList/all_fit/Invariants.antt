use Rattle.dag.specs.Checks.{PassTo}
use Rattle.voxels.proofs.list.HallList.all_fit.Given as goal

abbrev pub invariant-loop-n : goal.invariant-loop-n
invariant-loop-n g l = PassTo l.self.levels.count (g.P.NodePool.nodes l.self.pool.now) l.n
