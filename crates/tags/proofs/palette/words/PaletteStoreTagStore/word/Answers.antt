use Rattle.std.proofs.Common.{Some, ap, ◌∙◌, arith}
use Rattle.tags.proofs.PaletteTakes.{palette_word}
use Rattle.tags.proofs.palette.words.PaletteStoreTagStore.word.Goals as goal

pub returns : goal.returns
returns c =
    let s = c.args.self.now in
    ap (λ w. Some w) c.word.ensures ∙ palette_word s.blocks.now s.count (omega arith) c.args.n (omega arith) _ c.index-blocks-n.is
