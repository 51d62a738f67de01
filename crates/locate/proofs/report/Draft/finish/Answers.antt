use Rattle.std.proofs.Common.{◌≡◌, ◌++◌, IfOk, string_bytes, sym, ap, subst, arith}
use Rattle.std.proofs.lemmas.Bool.{eqb-true, eqb-false}
use Rattle.locate.proofs.Endings.{end_none, end_noted}
use Rattle.locate.proofs.report.Draft.finish.Goals as goal

pub returns : goal.returns
returns c =
    subst (λ bs. IfOk c.close-2.result (λ s. string_bytes s ≡ bs))
    (end_noted c.args.self c.note.new.self c.args.last.now
    (omega (arith, eqb-false _ _ (sym c.if-is_empty.ensures))) c.in_ok-note.ensures)
    c.close-2.ensures

pub returns-then-is_empty : goal.returns-then-is_empty
returns-then-is_empty c =
    subst (λ bs. IfOk c.close.result (λ s. string_bytes s ≡ bs))
    (ap (λ t. string_bytes c.args.self.text ++ t)
    (end_none c.args.self.line c.args.self.located c.args.self.refused c.args.last.now
    (eqb-true _ _ (sym c.if-is_empty.ensures))))
    c.close.ensures
