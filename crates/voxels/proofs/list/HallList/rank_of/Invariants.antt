use Rattle.std.proofs.Common.{◌≡◌, ◌+◌, ◌-◌, ◌*◌, ◌^◌, ◌<◌, ◌≤◌, length}
use Rattle.dag.specs.Walk.{walk, path, total, root}
use Rattle.voxels.proofs.list.HallList.rank_of.Given as goal

-- the walk from the root goes on as the walk from record n of level k, and the rank so far and the rest of the path make the whole
abbrev pub invariant-loop-below : goal.invariant-loop-below
invariant-loop-below g l =
    (walk (g.P.NodePool.nodes l.fn.self.pool.now) l.fn.self.levels.count (root (g.P.NodePool.nodes l.fn.self.pool.now)) l.code ≡ walk (g.P.NodePool.nodes l.fn.self.pool.now) l.below l.n l.code)
    × (total (path (g.P.NodePool.nodes l.fn.self.pool.now) l.fn.self.levels.count (root (g.P.NodePool.nodes l.fn.self.pool.now)) l.code) ≡ l.rank + total (path (g.P.NodePool.nodes l.fn.self.pool.now) l.below l.n l.code))
    × (l.n < length (g.P.NodePool.nodes l.fn.self.pool.now))
    × (l.below ≤ 10)
    × (l.rank ≤ (10 - l.below) * 2 ^ 32)
