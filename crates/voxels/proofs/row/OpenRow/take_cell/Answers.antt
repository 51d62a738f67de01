use Rattle.std.proofs.Common.{set, refl, ap}
use Rattle.voxels.proofs.Masks.{cell_taken}
use Rattle.voxels.proofs.row.OpenRow.take_cell.Goals as goal

pub returns : goal.returns
returns c = record {
  node = λ h e. cell_taken c.args.self.now.node _ c.args.child.i _ refl (c.above-self.ensures h) refl (ap (set c.args.self.now.node.offsets c.args.child.i) c.ones_below.ensures) e;
  count = c.saturating_add-self.ensures;
}
