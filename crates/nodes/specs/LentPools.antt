-- The meaning of a pool in lent places.
use Rattle.std.specs.Prelude.{ℕ, ◌*◌, ◌/◌, ◌≤◌, List, length, drop}
use Rattle.std.proofs.Common.{arith}
use Rattle.std.proofs.Math.Nat.{mul-div-le, mul-le-mul_left}
use Rattle.nodes.specs.declared.node.Node.{Node}
use Rattle.nodes.specs.declared.place.Place.{Ghosts as PlaceMeaning}
use Rattle.nodes.specs.declared.lent_pool.Pool.{Pool}
use Rattle.nodes.specs.Pools.{capped}

-- the list: the first records of the lent places, as many as the count says
abbrev pub list_of : {T : Type 0} (place : PlaceMeaning T) → Pool T place → List Node
list_of place pool = place.nodes_in pool.count pool.places.now

-- the capacity: the whole records that fit
abbrev pub capacity_of : {T : Type 0} (place : PlaceMeaning T) → Pool T place → ℕ
capacity_of place pool = capped (place.room (length pool.places.now))

-- the places behind the capacity, those of a part record too
abbrev pub behind_of : {T : Type 0} (place : PlaceMeaning T) → Pool T place → List T
behind_of place pool = drop (place.span (capacity_of place pool)) pool.places.now

-- the records that fit take no more places than there are
pub span_inside : {T : Type 0} (place : PlaceMeaning T) (c n : ℕ) → c ≤ capped (place.room n) → place.span c ≤ n
span_inside place c n le =
    let q : c ≤ n / place.WIDTH = omega (arith, place.rooms n) in
    let m : place.WIDTH * c ≤ place.WIDTH * (n / place.WIDTH) = mul-le-mul_left place.WIDTH q in
    omega (arith, place.spans c, mul-div-le n place.WIDTH)

-- the list never outgrows the capacity
pub list_within : {T : Type 0} (place : PlaceMeaning T) (pool : Pool T place) → length (list_of place pool) ≤ capacity_of place pool
list_within place pool =
    omega (arith, pool.within, place.long pool.count pool.places.now (span_inside place pool.count (length pool.places.now) pool.within))
