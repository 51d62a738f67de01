use Rattle.std.proofs.Common.{ℕ, ◌+◌, ◌*◌, ◌^◌, ◌∙◌, rules, tests, arith}
use Rattle.std.proofs.lemmas.Iterator.{YieldsList-from_map, YieldsList-from_range}
use Rattle.std.proofs.lemmas.Iterator.Consumers.{sum_from_yields_List, fits_from_yields_list}
use Rattle.cells.specs.Hall.{bit}
use Rattle.cells.proofs.Digits.{digits_sum}
use Rattle.cells.proofs.Codes.{axis_fits}
use Rattle.cells.proofs.levels.Levels.coordinate.Goals as goal

pub sum-requires-clause-fits : goal.sum-requires-clause-fits
sum-requires-clause-fits c =
    let d : ℕ → ℕ = λ j. bit (3 * j + c.args.first) c.args.code in
    fits_from_yields_list c.map.result _ (YieldsList-from_map _ (λ j. d j * 2 ^ j) (YieldsList-from_range 0 _ c.args.self.count c.map.ensures.source (omega arith)) c.map.ensures.closure (λ x r q k. search (rules, tests)))
    (omega (arith, digits_sum 2 d c.args.self.count, axis_fits c.args.self.count c.args.first c.args.code (omega arith)))

pub returns : goal.returns
returns c =
    let d : ℕ → ℕ = λ j. bit (3 * j + c.args.first) c.args.code in
    sum_from_yields_List c.map.result _ c.sum.ensures.ran (YieldsList-from_map _ (λ j. d j * 2 ^ j) (YieldsList-from_range 0 _ c.args.self.count c.map.ensures.source (omega arith)) c.map.ensures.closure (λ x r q k. search (rules, tests)))
    ∙ digits_sum 2 d c.args.self.count
