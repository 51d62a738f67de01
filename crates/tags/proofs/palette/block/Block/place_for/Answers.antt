use Rattle.std.proofs.Common.{rules}
use Rattle.tags.proofs.Marks.{place_found}
use Rattle.tags.proofs.palette.block.Block.place_for.Goals as goal

pub returns : goal.returns
returns c = place_found c.args.self.now c.args.used c.args.i c.args.word _ c.search.ensures _ (λ e. search rules) c.or_else.ensures
