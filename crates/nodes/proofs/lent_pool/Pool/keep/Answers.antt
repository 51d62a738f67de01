use Rattle.std.proofs.Common.{ap, rules}
use Rattle.nodes.specs.LentPools.{span_inside}
use Rattle.nodes.proofs.LentCalls.{stays_cut, kept}
use Rattle.nodes.proofs.lent_pool.Pool.keep.Goals as goal

pub invariant_of-self : goal.invariant_of-self
invariant_of-self g c =
    let h = stays_cut g.T.Place c.args.self.now.places.now c.blank_out.new.places c.args.n c.args.self.now.count (search rules) (search rules) (search rules) (search rules) in
    record { within = h.within; blanks = h.order }

pub returns-then-n-self : goal.returns-then-n-self
returns-then-n-self g c =
    let h = stays_cut g.T.Place c.args.self.now.places.now c.blank_out.new.places c.args.n c.args.self.now.count (search rules) (search rules) (search rules) (search rules) in
    record {
      list = h.list_is;
      fixed = h.fits;
      untouched = ap g.T.Place.shown h.behind;
      kept = kept g.T.Place c.args.self.now.places.now c.blank_out.new.places _ c.args.n (g.T.Place.long c.args.n c.blank_out.new.places (span_inside g.T.Place c.args.n _ h.within)) h.front_is;
    }
