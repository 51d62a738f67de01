use Rattle.std.proofs.Common.{rules, arith}
use Rattle.tags.proofs.PaletteTakes.{change_offered}
use Rattle.tags.proofs.palette.words.PaletteStoreTagStore.change.Goals as goal

pub invariant_of-self : goal.invariant_of-self
invariant_of-self c =
    let s = c.args.self.now in
    let put = c.put.ensures in
    let done = change_offered s.blocks.now s.count s.fits s.tidy c.args.word c.args.n c.index-blocks-k.result c.put.new.self c.min-used.result c.put.result (omega arith) c.min-used.ensures put.put put.full put.kept put.refusal in
    record { fits = done.fits; held = done.held; tidy = done.tidy }

pub returns : goal.returns
returns c =
    let s = c.args.self.now in
    let put = c.put.ensures in
    let done = change_offered s.blocks.now s.count s.fits s.tidy c.args.word c.args.n c.index-blocks-k.result c.put.new.self c.min-used.result c.put.result (omega arith) c.min-used.ensures put.put put.full put.kept put.refusal in
    record { answer = done.answer; words = done.words; rule = search rules }
