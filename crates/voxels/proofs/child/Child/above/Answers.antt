use Rattle.voxels.proofs.Masks.{bit_joins}
use Rattle.voxels.proofs.child.Child.above.Goals as goal

pub returns : goal.returns
returns c = λ h. bit_joins c.args.mask c.args.self.i c.args.self.below h
