use Rattle.std.proofs.Common.{◌≡◌, ◌-◌, ◌≤◌, length}
use Rattle.dag.specs.Meets.{meet_children}
use Rattle.voxels.proofs.judge.order.+met_after.Given as goal

abbrev pub decreases-met_after : goal.decreases-met_after
decreases-met_after g l = l.k

-- so many records are met after the children so far
abbrev pub invariant-loop-i : goal.invariant-loop-i
invariant-loop-i g l =
    (l.met ≡ meet_children (g.P.NodePool.nodes l.pool) (l.k - 1) l.n l.i l.before)
    × (l.met ≤ length (g.P.NodePool.nodes l.pool))
