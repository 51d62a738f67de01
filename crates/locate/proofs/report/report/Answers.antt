use Rattle.std.proofs.Common.{◌≡◌, IfOk, string_bytes, subst, arith}
use Rattle.cells.specs.Refusals.{gives, refuses, number_of}
use Rattle.locate.proofs.Fields.{cut_more}
use Rattle.locate.proofs.Endings.{report_is}
use Rattle.locate.proofs.report.report.Goals as goal

pub returns-in-Ok : goal.returns-in-Ok
returns-in-Ok c =
    subst (λ bs. IfOk c.report_lines.result (λ s. string_bytes s ≡ bs))
    (report_is c.args.file.now c.cut_at-first.result.piece.now c.in-Some.lines.now (gives c.in-Ok.levels) (omega arith)
    (cut_more 10 _ _ _ c.in-Some.lines c.cut_at-first.ensures.pieces c.in-Some.is) c.in-Ok.ensures)
    c.report_lines.ensures

pub returns-in-Err : goal.returns-in-Err
returns-in-Err c =
    subst (λ bs. IfOk c.refusal_line-in-Err.result (λ s. string_bytes s ≡ bs))
    (report_is c.args.file.now c.cut_at-first.result.piece.now c.in-Some.lines.now (refuses (number_of c.in-Err.refusal)) (omega arith)
    (cut_more 10 _ _ _ c.in-Some.lines c.cut_at-first.ensures.pieces c.in-Some.is) c.in-Err.ensures)
    c.refusal_line-in-Err.ensures
