use Rattle.std.proofs.Common.{◌/◌, refl, rules, arith}
use Rattle.std.proofs.lemmas.List.{set-get_or}
use Rattle.tags.proofs.PaletteTakes.{add_none, add_took}
use Rattle.tags.proofs.palette.words.PaletteStoreTagStore.add.Goals as goal

pub returns-in_err-put : goal.returns-in_err-put
returns-in_err-put c =
    let s = c.args.self.now in
    let block = c.index-blocks-self.result in
    let none = add_none s.blocks.now s.count s.fits s.tidy c.args.word block (omega arith) c.in_err-put.ensures.full in
    record {
      answer = rw none (search rules);
      words = rw (none, c.in_err-put.ensures.kept, set-get_or s.blocks.now (s.count / 64) block) refl;
      rule = search rules;
    }

pub invariant_of-self-2 : goal.invariant_of-self-2
invariant_of-self-2 c =
    let s = c.args.self.now in
    let took = add_took s.blocks.now s.count s.fits s.tidy c.args.word c.index-blocks-self.result c.put.new.self (omega arith) (omega arith) c.in_ok-put.ensures.put in
    record { fits = took.fits; held = took.held; tidy = took.tidy }

pub returns : goal.returns
returns c =
    let s = c.args.self.now in
    let took = add_took s.blocks.now s.count s.fits s.tidy c.args.word c.index-blocks-self.result c.put.new.self (omega arith) (omega arith) c.in_ok-put.ensures.put in
    record { answer = rw took.accepted refl; words = rw took.accepted took.words; rule = search rules }
