use Rattle.std.proofs.Common.{◌∙◌, refl}
use Rattle.nodes.proofs.ByteFields.{offset_at}
use Rattle.nodes.proofs.byte_pool.U8Place.offset.Goals as goal

pub returns : goal.returns
returns c = c.nth_field.ensures ∙ offset_at c.args.places.now c.args.i c.requires.child 4 refl
