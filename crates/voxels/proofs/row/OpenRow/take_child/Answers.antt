use Rattle.std.proofs.Common.{refl}
use Rattle.voxels.proofs.Masks.{child_taken}
use Rattle.voxels.proofs.row.OpenRow.take_child.Goals as goal

pub returns : goal.returns
returns c = record {
  node = λ h. child_taken c.args.self.now.node _ c.args.child.i c.args.link c.args.self.now.count refl (c.above-self.ensures h) refl refl;
  count = c.saturating_add-self.ensures;
}
