use Rattle.cells.proofs.Codes.{digit_shifted, code_digit, code_digit_small}
use Rattle.cells.specs.declared.hall.Cell.{Cell}
use Rattle.cells.proofs.levels.fn.Levels.interleave.map.Goals as goal

pub returns : goal.returns
returns c =
    let cell : Cell = record { x = c.captures.x; y = c.captures.y; z = c.captures.z } in
    digit_shifted (code_digit cell c.args.j) c.args.j (code_digit_small cell c.args.j) c.requires
