use Rattle.std.proofs.Common.{◌+◌, ◌-◌, zero-add, sym, ap, ◌∙◌, arith}
use Rattle.dag.specs.Walk.{walk, path, total}
use Rattle.voxels.proofs.WalkSteps.{step_walks, step_adds, step_shut, found_end, found_free}
use Rattle.voxels.proofs.list.HallList.rank_of.Goals as goal

pub loop-below-init : goal.loop-below-init
loop-below-init g c =
    let ns = g.P.NodePool.nodes c.args.self.now.pool.now in
    let L = c.args.self.now.levels.count in
    let root = c.in_ok-n.ensures in (
      ap (λ n. walk ns L n c.args.code) (sym root.last),
      ap (λ n. total (path ns L n c.args.code)) (sym root.last) ∙ sym (zero-add _),
      omega (arith, root.last, root.some),
      c.args.self.now.levels.high,
      omega arith,
    )

pub step_to-requires-clause-inside : goal.step_to-requires-clause-inside
step_to-requires-clause-inside g c = c.loop-below.invariant.2

pub returns-in_err-taken : goal.returns-in_err-taken
returns-in_err-taken g c =
    let ns = g.P.NodePool.nodes c.args.self.now.pool.now in
    c.from_residual-in_err-taken.ensures
    ∙ found_free c.args.self.now.levels.count ns c.args.code
    (c.loop-below.invariant.0 ∙ step_shut ns c.loop-below.below (c.loop-below.below - 1) c.loop-below.n c.args.code c.of.result.i (omega arith) c.of.ensures c.in_err-taken.ensures)

pub overflow_add-rank : goal.overflow_add-rank
overflow_add-rank g c =
    let goes = c.in_ok-taken.ensures in
    let inv = c.loop-below.invariant in
    omega (arith, goes.small, c.from-rank.ensures, inv.3, inv.4)

pub loop-below-preserved : goal.loop-below-preserved
loop-below-preserved g c =
    let ns = g.P.NodePool.nodes c.args.self.now.pool.now in
    let goes = c.in_ok-taken.ensures in
    let inv = c.loop-below.invariant in
    let next = c.in_ok-taken.taken in
    let sum = step_adds ns c.loop-below.below (c.loop-below.below - 1) c.loop-below.n c.args.code c.of.result.i (omega arith) c.of.ensures next.next next.offset goes in (
      inv.0 ∙ step_walks ns c.loop-below.below (c.loop-below.below - 1) c.loop-below.n c.args.code c.of.result.i (omega arith) c.of.ensures next.next next.offset goes,
      inv.1 ∙ ap (λ t. c.loop-below.rank + t) sum ∙ omega (arith, c.from-rank.ensures),
      goes.inside,
      omega (arith, inv.3),
      omega (arith, goes.small, c.from-rank.ensures, inv.3, inv.4, c.loop-below-test.true),
    )

pub returns : goal.returns
returns g c =
    let ns = g.P.NodePool.nodes c.args.self.now.pool.now in
    let root = c.in_ok-n.ensures in
    found_end c.args.self.now.levels.count ns c.args.code c.loop-below.below c.loop-below.n c.loop-below.rank root.some root.level
    (omega arith) c.loop-below.invariant.0 c.loop-below.invariant.1
