use Rattle.std.proofs.Common.{◌≡◌, ℕ, ◌+◌, ◌*◌, ◌^◌, ◌<◌, ◌≤◌}
use Rattle.dag.specs.Sizes.{size_before}
use Rattle.dag.specs.Checks.{ChildRight}
use Rattle.voxels.proofs.list.Branch.children_fit.Given as goal

-- the children so far are right, and their cells are counted
abbrev pub invariant-loop-i : goal.invariant-loop-i
invariant-loop-i g l =
    (l.before ≡ size_before (g.P.NodePool.nodes l.self.pool.now) l.self.below l.self.n l.i)
    × ((j : ℕ) → j < l.i → ChildRight (g.P.NodePool.nodes l.self.pool.now) l.self.below l.self.n j)
    × (l.before ≤ l.i * (10 * 2 ^ 32 + 1))
