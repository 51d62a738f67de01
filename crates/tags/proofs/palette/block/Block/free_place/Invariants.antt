use Rattle.tags.proofs.Marks.{Marked}
use Rattle.tags.proofs.palette.block.Block.free_place.Given as goal

-- marks stand where the indices so far name a place
abbrev pub invariant-loop-n : goal.invariant-loop-n
invariant-loop-n l = Marked l.named l.self.indices l.i l.n
