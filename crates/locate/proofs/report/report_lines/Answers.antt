use Rattle.std.proofs.Common.{◌≡◌, ◌<◌, ◌++◌, length, IfSome, IfOk, string_bytes, sym, ap, ◌∙◌, subst, arith}
use Rattle.std.specs.Option.{option_map}
use Rattle.cells.specs.Refusals.{answer}
use Rattle.text.specs.Pieces.{cut_pieces}
use Rattle.locate.specs.Report.{answers, line_answers}
use Rattle.locate.proofs.Fields.{cut_more}
use Rattle.locate.proofs.Endings.{lines_last, lines_step, counted}
use Rattle.locate.proofs.report.report_lines.Goals as goal

pub returns-in_default : goal.returns-in_default
returns-in_default c =
    let d = c.loop-after.draft in
    let cut = c.cut_at-next.ensures.pieces ∙ ap (λ o. cut_pieces 10 c.cut_at-next.result.piece.now (option_map (λ x. x.now) o)) c.in_default.is in
    subst (λ bs. IfOk c.finish.result (λ s. string_bytes s ≡ bs))
    (ap (λ xs. string_bytes d.text ++ answers d.line d.located d.refused xs)
    (sym (lines_last c.args.levels c.cut_at-next.result.piece.now) ∙ ap (line_answers c.args.levels) (sym cut))
    ∙ c.loop-after.invariant.0)
    c.finish.ensures

pub loop-after-preserved : goal.loop-after-preserved
loop-after-preserved c =
    let n = c.in_ok-note.ensures in
    let less = subst (λ o. IfSome o (λ r. length r.now < length c.loop-after.rest.now)) c.in-Some.is c.cut_at-next.ensures.shorter in
    let one = counted (answer c.locate_line.result) in (
      lines_step c.args.levels c.loop-after.draft c.note.new.self (answer c.locate_line.result)
          c.cut_at-next.result.piece.now c.loop-after.rest.now c.in-Some.after.now
          n c.locate_line.ensures
          (cut_more 10 _ _ _ c.in-Some.after c.cut_at-next.ensures.pieces c.in-Some.is)
          ∙ c.loop-after.invariant.0,
      omega (arith, n.line, less),
      omega (arith, n.line, n.located, n.refused),
    )
