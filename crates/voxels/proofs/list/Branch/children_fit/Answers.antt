use Rattle.std.proofs.Common.{◌+◌, sym, ap, ◌∙◌, ap₂, add-one, arith, below_more}
use Rattle.dag.specs.Sizes.{size_before, cells_at}
use Rattle.dag.specs.Checks.{ChildRight}
use Rattle.dag.proofs.LastChild.{sum_none, sum_more}
use Rattle.dag.proofs.Checks.{child_countable}
use Rattle.voxels.proofs.list.Branch.children_fit.Goals as goal

pub loop-i-init : goal.loop-i-init
loop-i-init g c =
    let ns = g.P.NodePool.nodes c.args.self.now.pool.now in
    (sym (sum_none (cells_at ns c.args.self.now.below c.args.self.now.n)), λ j l. absurd (omega arith), omega arith)

pub cells_in-before-requires : goal.cells_in-before-requires
cells_in-before-requires g c =
    let ns = g.P.NodePool.nodes c.args.self.now.pool.now in
    let right = c.child_fits.ensures.0 c.if-not-child_fits.false in
    (c.requires.0, λ t. child_countable c.requires.1.1.0 ns c.args.self.now.below c.args.self.now.n _ c.requires.1.0 c.requires.1.1.1 (right.there t))

pub loop-i-preserved : goal.loop-i-preserved
loop-i-preserved g c =
    let ns = g.P.NodePool.nodes c.args.self.now.pool.now in
    let i = c.loop-i.i in
    let f = cells_at ns c.args.self.now.below c.args.self.now.n in
    let inv = c.loop-i.invariant in
    let small = c.cells_in-before.ensures.small in (
      ap₂ (λ x y. x + y) inv.0 c.cells_in-before.ensures.is ∙ sym (sum_more f i) ∙ ap (size_before ns c.args.self.now.below c.args.self.now.n) (sym (add-one i)),
      below_more (ChildRight ns c.args.self.now.below c.args.self.now.n) i inv.1 (c.child_fits.ensures.0 c.if-not-child_fits.false),
      omega (arith, inv.2),
    )
