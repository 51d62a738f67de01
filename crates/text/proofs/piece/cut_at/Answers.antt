use Rattle.std.proofs.Common.{◌+◌, add-one}
use Rattle.std.proofs.lemmas.List.{take_rest}
use Rattle.text.proofs.Cuts.{pieces_none, pieces_cut}
use Rattle.text.proofs.piece.cut_at.Goals as goal

pub returns-in-None-clause-pieces : goal.returns-in-None-clause-pieces
returns-in-None-clause-pieces c = pieces_none c.args.separator c.args.bytes.now c.in-None.ensures

pub returns-in-Some-clause-pieces : goal.returns-in-Some-clause-pieces
returns-in-Some-clause-pieces c =
    rw (take_rest c.args.bytes.now (c.in-Some.n + 1), add-one c.in-Some.n)
    (pieces_cut c.args.separator c.args.bytes.now c.in-Some.n c.in-Some.ensures.0 c.in-Some.ensures.1)
