use Rattle.std.proofs.Common.{◌≡◌, ◌+◌, ◌-◌, ◌^◌, ◌<◌, ◌≤◌, length, sym, ap, ◌∙◌, subst, zero-add, arith}
use Rattle.nodes.specs.Records.{none}
use Rattle.dag.specs.Rules.{node_at, link_of, offset_of}
use Rattle.dag.specs.Sizes.{size}
use Rattle.dag.specs.Checks.{Countable}
use Rattle.dag.proofs.LastChild.{size_cell}
use Rattle.voxels.proofs.Judges.{step_down, some_mask}
use Rattle.voxels.proofs.judge.count.size_of.Goals as goal

pub last_in-last-requires : goal.last_in-last-requires
last_in-last-requires g c =
    let ns = g.P.NodePool.nodes c.args.pool.now in
    subst (λ m. 0 < m) (sym c.mask_at.ensures) (some_mask ns (c.args.k - c.loop.counter) c.loop.at (omega arith) c.loop.invariant.1)

pub overflow_add-total : goal.overflow_add-total
overflow_add-total g c = omega (arith, c.from-total.ensures, c.loop.invariant.2, c.requires.0)

pub loop-init : goal.loop-init
loop-init g c =
    let ns = g.P.NodePool.nodes c.args.pool.now in
    let all : c.args.k ≡ c.args.k - 0 = omega arith in
    (ap (λ k. size ns k c.args.n) all ∙ sym (zero-add _), subst (λ k. Countable ns k c.args.n) all c.requires.1, omega arith)

pub loop-preserved : goal.loop-preserved
loop-preserved g c =
    let pool = c.args.pool.now in
    let ns = g.P.NodePool.nodes pool in
    let few : length ns ≤ none = omega (arith, g.P.NodePool.within pool, g.P.NodePool.bounded pool) in
    let inv = c.loop.invariant in
    let at = c.loop.at in
    let left = c.args.k - c.loop.counter in
    let j = c.last_in-last.result.i in
    let mask = c.mask_at.ensures in
    let high = c.last_in-last.ensures in
    let down = step_down ns few left at j (omega arith) inv.1 c.last_in-last.result.below
    (subst (λ m. 2 ^ j ≤ m) mask high.0) (subst (λ m. m < 2 ^ (j + 1)) mask high.1) in
    let offset : offset_of (node_at ns at) j ≡ c.from-total.result = sym (c.from-total.ensures ∙ c.offset_at.ensures) in
    let link : link_of (node_at ns at) j ≡ c.from-at.result = sym (c.from-at.ensures ∙ c.link_at.ensures) in
    let next : left - 1 ≡ c.args.k - (c.loop.counter + 1) = omega arith in
    let kid : size ns (left - 1) (link_of (node_at ns at) j) ≡ size ns (c.args.k - (c.loop.counter + 1)) c.from-at.result =
    ap (size ns (left - 1)) link ∙ ap (λ k. size ns k c.from-at.result) next in
    let sum = inv.0 in
    let one = down.0 in
    (omega arith, subst (λ k. Countable ns k c.from-at.result) next (subst (Countable ns (left - 1)) link down.1), omega (arith, inv.2, c.from-total.ensures))

pub returns : goal.returns
returns g c =
    let ns = g.P.NodePool.nodes c.args.pool.now in
    let inv = c.loop.invariant in
    let e : c.args.k - c.loop.counter ≡ 0 = omega arith in
    let f : size ns (c.args.k - c.loop.counter) c.loop.at ≡ 1 = ap (λ k. size ns k c.loop.at) e ∙ size_cell ns c.loop.at in
    let sum = inv.0 in
    record { is = omega arith; small = omega (arith, inv.2) }
