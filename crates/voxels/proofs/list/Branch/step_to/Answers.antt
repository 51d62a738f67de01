use Rattle.std.proofs.Common.{eqb, ◌^◌, ◌<◌, ◌≤◌, length, sym, ap, ◌∙◌, subst, arith}
use Rattle.cells.specs.Hall.{bit}
use Rattle.nodes.specs.Records.{none}
use Rattle.voxels.specs.Finds.{GoesTo}
use Rattle.voxels.proofs.WalkSteps.{bit_clear, bit_set, shut, at_cell, late, other_level, goes_on}
use Rattle.voxels.proofs.list.Branch.step_to.Goals as goal

pub returns-then-not-is_in : goal.returns-then-not-is_in
returns-then-not-is_in g c =
    let ns = g.P.NodePool.nodes c.args.self.now.pool.now in
    shut ns c.args.self.now.below c.args.self.now.n c.args.child.i
    (bit_clear c.args.child.i _ c.is_in.result (c.is_in.ensures ∙ ap (λ m. eqb (bit c.args.child.i m) 1) c.mask_at.ensures) c.if-not-is_in.true)

pub returns-then-below-eq0 : goal.returns-then-below-eq0
returns-then-below-eq0 g c =
    let ns = g.P.NodePool.nodes c.args.self.now.pool.now in
    let e = sym c.offset_at-offset.ensures in
    subst (GoesTo ns c.args.self.now.below c.args.self.now.n c.args.child.i c.args.self.now.n) e
    (at_cell ns c.args.self.now.below c.args.self.now.n c.args.child.i c.if-below-eq0.true
    (bit_set c.args.child.i _ c.is_in.result (c.is_in.ensures ∙ ap (λ m. eqb (bit c.args.child.i m) 1) c.mask_at.ensures) c.if-not-is_in.false) c.requires.inside
    (subst (λ o. o < 2 ^ 32) (sym e) c.offset_at-offset.type_inv))

pub returns-then-next-n : goal.returns-then-next-n
returns-then-next-n g c =
    late (g.P.NodePool.nodes c.args.self.now.pool.now) c.args.self.now.below c.args.self.now.n c.args.child.i (omega arith)
    c.from-next.result (c.from-next.ensures ∙ c.link_at.ensures) c.if-next-n.true

pub returns-then-from-below : goal.returns-then-from-below
returns-then-from-below g c =
    other_level (g.P.NodePool.nodes c.args.self.now.pool.now) c.args.self.now.below c.args.self.now.n c.args.child.i (omega arith)
    c.from-next.result (c.from-next.ensures ∙ c.link_at.ensures)
    (λ z. c.if-from-below.true (c.from.ensures ∙ c.level_at.ensures ∙ z))

pub returns : goal.returns
returns g c =
    let ns = g.P.NodePool.nodes c.args.self.now.pool.now in
    let e = sym c.offset_at-offset.ensures in
    let few : length ns ≤ none = omega (arith, g.P.NodePool.within c.args.self.now.pool.now, g.P.NodePool.bounded c.args.self.now.pool.now) in
    subst (GoesTo ns c.args.self.now.below c.args.self.now.n c.args.child.i c.from-next.result) e
    (goes_on ns c.args.self.now.below c.args.self.now.n c.args.child.i (omega arith) c.from-next.result (c.from-next.ensures ∙ c.link_at.ensures)
    (bit_set c.args.child.i _ c.is_in.result (c.is_in.ensures ∙ ap (λ m. eqb (bit c.args.child.i m) 1) c.mask_at.ensures) c.if-not-is_in.false)
    c.if-next-n.false c.requires.inside few (sym c.level_at.ensures ∙ sym c.from.ensures ∙ c.if-from-below.false)
    (subst (λ o. o < 2 ^ 32) (sym e) c.offset_at-offset.type_inv))
