use Rattle.std.proofs.Common.{◌≡◌, ◌^◌, ◌≤◌, true, sym, ap, ◌∙◌, arith}
use Rattle.std.specs.Result.{result_ok}
use Rattle.std.proofs.lemmas.Bool.{not-false, le-leb}
use Rattle.cells.specs.Refusals.{gives}
use Rattle.cells.specs.Hall.{levels_fit}
use Rattle.cells.proofs.Checks.{passed, goes_on, stops}
use Rattle.cells.proofs.Codes.{volume_most}
use Rattle.locate.specs.Lines.{with_number, code_place}
use Rattle.locate.proofs.line.place_of_code.Goals as goal

pub returns-in_default : goal.returns-in_default
returns-in_default c =
    let L = c.args.levels in
    let number = sym c.long_number.ensures ∙ c.ok_or.ensures.ok_part ∙ ap result_ok c.in_ok-number.was in
    let p : levels_fit L ≡ true = not-false _ (passed _ 1 (gives L) c.in_ok-levels.levels.count c.in_ok-levels.ensures).0 in
    let far : 8 ^ L ≤ c.in_ok-number.number = omega (arith, volume_most L p, c.in_default.ensures) in
    sym (stops _ 3 _ (le-leb _ _ far)) ∙ sym (goes_on _ 1 _ p) ∙ ap (λ o. with_number o (code_place L)) (sym number)
