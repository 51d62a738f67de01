use Rattle.std.proofs.Common.{◌+◌, ◌-◌, ◌*◌, ◌<◌, length, sym, ap, ◌∙◌, arith, rules}
use Rattle.nodes.specs.LentPools.{capacity_of, span_inside}
use Rattle.nodes.proofs.Adding.{added_room, accepts}
use Rattle.nodes.proofs.LentCalls.{part_inside, stays_added, front_stays, kept}
use Rattle.nodes.proofs.lent_pool.PoolNodePool.add.Goals as goal

pub overflow_add-at : goal.overflow_add-at
overflow_add-at g c =
    let pool = c.args.self.now in
    let inside = part_inside g.T.Place pool.count (pool.count + 1) (length pool.places.now) _ c.WIDTH.ensures (omega arith) (omega arith) in
    search rules

pub offset_bounds-self-at : goal.offset_bounds-self-at
offset_bounds-self-at g c =
    let pool = c.args.self.now in
    let inside = part_inside g.T.Place pool.count (pool.count + 1) (length pool.places.now) _ c.WIDTH.ensures (omega arith) (omega arith) in
    search rules

pub slice_bounds-put-end : goal.slice_bounds-put-end
slice_bounds-put-end g c =
    let pool = c.args.self.now in
    let inside = part_inside g.T.Place pool.count (pool.count + 1) (length pool.places.now) _ c.WIDTH.ensures (omega arith) (omega arith) in
    search rules

pub invariant_of-self : goal.invariant_of-self
invariant_of-self g c =
    let pool = c.args.self.now in
    let h = stays_added g.T.Place pool.places.now c.put.new.places c.args.node pool.count _ _ c.WIDTH.ensures (omega (arith, c.WIDTH-2.ensures)) (omega arith) (search rules) c.put.ensures pool.blanks in
    record { within = h.within; blanks = h.order }

pub returns : goal.returns
returns g c =
    let pool = c.args.self.now in
    let m = pool.places.now in
    let w = c.WIDTH.result in
    let k = w * pool.count + c.WIDTH-2.result - w * pool.count in
    let room : pool.count < capacity_of g.T.Place pool = omega arith in
    let h = stays_added g.T.Place m c.put.new.places c.args.node pool.count w k c.WIDTH.ensures (omega (arith, c.WIDTH-2.ensures)) room (search rules) c.put.ensures pool.blanks in
    let inside = span_inside g.T.Place pool.count (length m) (omega (arith, room)) in
    let long = g.T.Place.long pool.count m inside in
    record {
      answers = accepts _ _ _ (omega (arith, room, long)) (sym long);
      list = h.list_is ∙ sym (added_room _ _ _ (omega (arith, room, long)));
      fixed = h.fits;
      untouched = ap g.T.Place.shown h.behind;
      kept = kept g.T.Place m _ _ pool.count long (front_stays g.T.Place m _ _ _ pool.count inside h);
    }
