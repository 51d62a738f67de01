use Rattle.std.proofs.Common.{rules, ◌≡◌, sym, ap}
use Rattle.tags.specs.Making.{made}
use Rattle.tags.specs.TagKinds.{label_back}
use Rattle.tags.proofs.label.Label.new.Goals as goal

pub returns-clause-tag : goal.returns-clause-tag
returns-clause-tag c =
    let same : c.in_ok-within.field-0 ≡ c.args.plate = search rules in rw (← same) (sym (ap made (label_back _)))
