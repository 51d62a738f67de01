use Rattle.std.proofs.Common.{◌≡◌, ℕ, ◌*◌, ◌^◌, ◌<◌, ◌∙◌, sym, subst, rules, tests, arith}
use Rattle.std.proofs.lemmas.Iterator.{YieldsList-from_map, YieldsList-from_range}
use Rattle.std.proofs.lemmas.Iterator.Consumers.{sum_from_yields_List, fits_from_yields_list}
use Rattle.cells.specs.Hall.{code_of, cell_at, CodeBits}
use Rattle.cells.proofs.Digits.{digits_sum}
use Rattle.cells.proofs.Codes.{code_digit, code_fits, code_below, code_bits, code_back, cell_fits_lem}
use Rattle.cells.proofs.levels.Levels.interleave.Goals as goal

pub sum-requires-clause-fits : goal.sum-requires-clause-fits
sum-requires-clause-fits c =
    let d : ℕ → ℕ = code_digit c.args.cell in
    fits_from_yields_list c.map.result _ (YieldsList-from_map _ (λ j. d j * 8 ^ j) (YieldsList-from_range 0 _ c.args.self.count c.map.ensures.source (omega arith)) c.map.ensures.closure (λ x r q k. search (rules, tests)))
    (omega (arith, digits_sum 8 d c.args.self.count, code_fits c.args.self.count c.args.cell (omega arith)))

pub returns : goal.returns
returns c =
    let L = c.args.self.count in
    let cell = c.args.cell in
    let d : ℕ → ℕ = code_digit cell in
    let e : c.sum.result ≡ code_of L cell =
    sum_from_yields_List c.map.result _ c.sum.ensures.ran (YieldsList-from_map _ (λ j. d j * 8 ^ j) (YieldsList-from_range 0 _ L c.map.ensures.source (omega arith)) c.map.ensures.closure (λ x r q k. search (rules, tests)))
    ∙ digits_sum 8 d L in
    record {
      value = e;
      below = subst (λ n. n < 8 ^ L) (sym e) (code_below L cell);
      bits = λ q. let f = cell_fits_lem L cell q in subst (CodeBits cell) (sym e) (code_bits L cell f.0 f.1 f.2);
      back = λ q. let f = cell_fits_lem L cell q in subst (λ n. cell_at L n ≡ cell) (sym e) (code_back L cell f.0 f.1 f.2);
    }
