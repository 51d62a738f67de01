use Rattle.std.proofs.Common.{ℕ, ◌-◌}
use Rattle.voxels.specs.Strict.{Took}
use Rattle.voxels.specs.Visiting.{Visits}
use Rattle.voxels.proofs.Sweeping.{tags_up_to}
use Rattle.voxels.proofs.sweep.+sweep.Given as goal

-- each level is gone through below the one above it
abbrev pub decreases-sweep : goal.decreases-sweep
decreases-sweep g l = l.visit.level

-- the tags of the children before i are taken
abbrev pub invariant-loop-i : goal.invariant-loop-i
invariant-loop-i g l =
    (L s : ℕ) → Visits L (g.P.NodePool.nodes l.pool) l.bounds s l.visit
    → Took g.K.RankedKind.stricter l.initial.best (tags_up_to g.K.TagKind.reading g.K.RankedKind.stricter L (g.P.NodePool.nodes l.pool) (g.S.TagStore.words l.store) l.bounds (l.visit.level - 1) s l.i) l.best
