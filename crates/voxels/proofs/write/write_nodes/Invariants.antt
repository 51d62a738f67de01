use Rattle.std.proofs.Common.{take}
use Rattle.std.specs.List.{AllByRecursion}
use Rattle.nodes.specs.Format.{node_bytes, written}
use Rattle.voxels.proofs.Writing.{Front, Back}
use Rattle.voxels.proofs.write.write_nodes.Given as goal

-- the first n records are written, and each comes back from its bytes
abbrev pub invariant-loop-n : goal.invariant-loop-n
invariant-loop-n g l =
    Front written node_bytes l.n (g.P.NodePool.nodes l.pool) l.initial.buffer l.buffer
    × AllByRecursion Back (take l.n (g.P.NodePool.nodes l.pool))
