use Rattle.std.proofs.Common.{◌/◌, ap}
use Rattle.cells.proofs.Codes.{eight}
use Rattle.voxels.proofs.child.sub_cube.Goals as goal

pub returns : goal.returns
returns c = ap (λ n. c.args.code / n) (eight c.args.k)
