use Rattle.nodes.specs.Format.{bytes_of}
use Rattle.voxels.proofs.Writing.{Front}
use Rattle.voxels.proofs.write.write_words.Given as goal

-- the first n words are written
abbrev pub invariant-loop-n : goal.invariant-loop-n
invariant-loop-n g l = Front (bytes_of l.width) l.width l.n (g.S.TagStore.words l.store) l.initial.buffer l.buffer
