use Rattle.std.proofs.Common.{rules}
use Rattle.locate.proofs.Fields.{first_line}
use Rattle.locate.proofs.line.first_field.Goals as goal

pub returns-in-76 : goal.returns-in-76
returns-in-76 c = first_line c.args.line.now (search rules) (search rules)
