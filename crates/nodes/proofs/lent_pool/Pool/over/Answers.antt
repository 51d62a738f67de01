use Rattle.std.proofs.Common.{drop, sym, ap, ◌∙◌, rules}
use Rattle.nodes.proofs.LentCalls.{stays_made}
use Rattle.nodes.proofs.lent_pool.Pool.over.Goals as goal

pub invariant_of-result : goal.invariant_of-result
invariant_of-result g c =
    let h = stays_made g.T.Place c.args.places.now c.blank_out.new.places c.min-count.result c.most_in-capacity.result (search rules) (search rules) (search rules) in
    record { within = h.within; blanks = h.order }

pub returns-clause-untouched : goal.returns-clause-untouched
returns-clause-untouched g c =
    let h = stays_made g.T.Place c.args.places.now c.blank_out.new.places c.min-count.result c.most_in-capacity.result (search rules) (search rules) (search rules) in
    h.behind ∙ ap (λ p. drop (g.T.Place.span p) c.args.places.now) (sym h.fits)
