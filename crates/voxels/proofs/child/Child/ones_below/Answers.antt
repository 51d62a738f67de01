use Rattle.std.proofs.Common.{ap}
use lib.Count.{ones}
use Rattle.voxels.proofs.Masks.{bits_before}
use Rattle.voxels.proofs.child.Child.ones_below.Goals as goal

pub returns : goal.returns
returns c = ap ones (bits_before c.args.mask c.args.self.i c.args.self.below)
