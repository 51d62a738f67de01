use Rattle.std.proofs.Common.{◌≡◌, ◌+◌, ◌-◌, ◌*◌, ◌^◌, ◌≤◌}
use Rattle.dag.specs.Sizes.{size}
use Rattle.dag.specs.Checks.{Countable}
use Rattle.voxels.proofs.judge.count.size_of.Given as goal

-- the cells so far and those under the record that was come to make the whole
abbrev pub invariant-loop : goal.invariant-loop
invariant-loop g l =
    (size (g.P.NodePool.nodes l.pool) l.k l.n ≡ l.total + size (g.P.NodePool.nodes l.pool) (l.k - l.counter) l.at)
    × Countable (g.P.NodePool.nodes l.pool) (l.k - l.counter) l.at
    × (l.total ≤ l.counter * 2 ^ 32)
