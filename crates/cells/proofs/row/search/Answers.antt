use Rattle.std.proofs.Common.{◌≡◌, Some, rules}
use Rattle.std.specs.List.{slice_get}
use Rattle.std.proofs.lemmas.Iterator.{first_from_Range}
use Rattle.cells.proofs.Places.{lowest_below}
use Rattle.cells.proofs.row.search.Goals as goal

pub returns : goal.returns
returns g c =
    let xs = g.R.Row.entries c.args.row.now in
    let w = c.args.wanted.now in
    lowest_below xs w _ _ (search rules) c.count.ensures c.find.result (first_from_Range _ _ _ _ (λ i. slice_get xs i ≡ Some w) (λ i. slice_get xs i ≡ Some w → ⊥) c.find.ensures.ran (λ x q k. search rules) (λ x q k. (search rules, search rules)))
