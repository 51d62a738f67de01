use Rattle.std.proofs.Common.{rules, ◌≡◌, sym, ap}
use Rattle.tags.specs.Making.{made}
use Rattle.tags.specs.TagKinds.{speed_back}
use Rattle.tags.proofs.speed.Speed.new.Goals as goal

pub returns-clause-tag : goal.returns-clause-tag
returns-clause-tag c =
    let same : c.in_ok-within.field-0 ≡ c.args.limit = search rules in rw (← same) (sym (ap made (speed_back _)))
