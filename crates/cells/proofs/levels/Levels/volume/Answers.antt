use Rattle.std.proofs.Common.{◌*◌, ◌∙◌, arith}
use Rattle.std.proofs.lemmas.Nat.{one_shl}
use Rattle.cells.proofs.Codes.{eight}
use Rattle.cells.proofs.levels.Levels.volume.Goals as goal

pub returns : goal.returns
returns c = one_shl (3 * c.args.self.count) 32 (omega arith) ∙ eight c.args.self.count
