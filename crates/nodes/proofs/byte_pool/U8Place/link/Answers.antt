use Rattle.std.proofs.Common.{◌∙◌, refl}
use Rattle.nodes.proofs.ByteFields.{link_at}
use Rattle.nodes.proofs.byte_pool.U8Place.link.Goals as goal

pub returns : goal.returns
returns c = c.nth_field.ensures ∙ link_at c.args.places.now c.args.i c.requires.child 2 refl
