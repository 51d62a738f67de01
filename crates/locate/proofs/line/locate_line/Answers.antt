use Rattle.std.proofs.Common.{ap, ◌∙◌}
use Rattle.std.specs.Result.{result_ok}
use Rattle.locate.proofs.Fields.{cut_more, four_fields}
use Rattle.locate.proofs.line.locate_line.Goals as goal

pub returns-in_default-rest : goal.returns-in_default-rest
returns-in_default-rest c =
    let rest = c.ok_or.ensures.ok_part ∙ ap result_ok c.in_ok-rest.was in
    four_fields c.args.levels c.args.line.now _ c.in-Some.rest.now _ c.in_ok-rest.rest.now _ c.in_default-rest.field-0.now
    (cut_more 32 _ _ _ c.in-Some.rest c.cut_at-first.ensures.pieces c.in-Some.is)
    (cut_more 32 _ _ _ c.in_ok-rest.rest c.cut_at-second.ensures.pieces rest)
    (cut_more 32 _ _ _ c.in_default-rest.field-0 c.cut_at-third.ensures.pieces c.in_default-rest.is)
