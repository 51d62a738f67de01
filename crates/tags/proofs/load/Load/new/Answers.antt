use Rattle.std.proofs.Common.{rules, ◌≡◌, sym, ap}
use Rattle.tags.specs.Making.{made}
use Rattle.tags.specs.TagKinds.{load_inside}
use Rattle.tags.proofs.load.Load.new.Goals as goal

pub returns-clause-tag : goal.returns-clause-tag
returns-clause-tag c =
    let load : c.in_ok-within.field-0 ≡ c.args.load = search rules in
    let zone : c.in_ok-within-2.field-0 ≡ c.args.zone = search rules in
    rw (← load, ← zone) (sym (ap made (load_inside _ _ _ _)))
