use Rattle.std.proofs.Common.{ℕ, ◌≢◌, List}
use Rattle.cells.specs.SubCubes.{sub_cube}
use Rattle.voxels.specs.Growing.{Grown}
use Rattle.voxels.specs.Stages.{AtStage}
use Rattle.voxels.proofs.close.closed_rows.Given as goal

-- the levels below r are closed
abbrev pub invariant-loop-r : goal.invariant-loop-r
invariant-loop-r g l =
    (sub_cube l.r l.last ≢ sub_cube l.r l.code)
    × Grown g.P.NodePool l.fn.pool l.pool
    × ((cells : List ℕ) → AtStage l.levels.count cells l.last 0 (g.P.NodePool.nodes l.fn.pool) l.fn.rows → AtStage l.levels.count cells l.last l.r (g.P.NodePool.nodes l.pool) l.left)
