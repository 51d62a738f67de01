use Rattle.std.proofs.Common.{◌≡◌, ◌-◌, ◌<◌, ◌≤◌, true, eqb, length, sym, ap, ◌∙◌, subst, ap₂, arith}
use Rattle.cells.specs.Hall.{bit}
use Rattle.dag.specs.Rules.{node_at, link_of}
use Rattle.dag.specs.Sizes.{has_child}
use Rattle.dag.specs.Meets.{meet, meet_children}
use Rattle.dag.specs.Checks.{Here}
use Rattle.dag.proofs.Turns.{met_cell, kids_none, kids_there, kids_absent, met_before, kid_here, here_inside, left_failed}
use Rattle.voxels.proofs.Judges.{left_by}
use Rattle.voxels.proofs.judge.order.+met_after.Goals as goal
use Rattle.voxels.proofs.judge.order.+met_after.Goals.{then-is_in+in_ok-met, else-is_in}

pub returns-then-k-eq0 : goal.returns-then-k-eq0
returns-then-k-eq0 g t c =
    (sym (met_cell (g.P.NodePool.nodes c.args.pool.now) c.args.k c.args.n c.args.before c.if-k-eq0.true), c.requires.1.1)

pub returns-then-n-before : goal.returns-then-n-before
returns-then-n-before g t c =
    (sym (met_before (g.P.NodePool.nodes c.args.pool.now) c.requires.0 c.args.n c.args.before c.args.k (omega arith) c.if-n-before.true), c.requires.1.1)

pub loop-i-init : goal.loop-i-init
loop-i-init g t c = (sym (kids_none (g.P.NodePool.nodes c.args.pool.now) (c.args.k - 1) c.args.n c.args.before), c.requires.1.1)

pub met_after-requires : goal.met_after-requires
met_after-requires g t c κs within =
    let ns = g.P.NodePool.nodes c.args.pool.now in
    let n = c.args.n in
    let i = c.loop-i.i in
    let set : has_child (node_at ns n) i ≡ true = ap (λ m. eqb (bit i m) 1) (sym c.mask_at.ensures) ∙ sym c.is_in.ensures ∙ c.if-is_in.true in
    let link : link_of (node_at ns n) i ≡ c.from.result = sym (c.from.ensures ∙ c.link_at.ensures) in (
      omega arith,
      (
        within,
        (
          c.requires.0,
          (subst (Here ns (c.args.k - 1)) link (kid_here ns c.requires.0 n c.args.before c.args.k i (omega arith) c.loop-i-test.true c.requires.1.0 set), c.loop-i.invariant.1),
        ),
      ),
    )

pub returns-in_err-met : goal.returns-in_err-met
returns-in_err-met g t c =
    let ns = g.P.NodePool.nodes c.args.pool.now in
    let n = c.args.n in
    let i = c.loop-i.i in
    let q = c.args.k - 1 in
    let set : has_child (node_at ns n) i ≡ true = ap (λ m. eqb (bit i m) 1) (sym c.mask_at.ensures) ∙ sym c.is_in.ensures ∙ c.if-is_in.true in
    let link : c.from.result ≡ link_of (node_at ns n) i = c.from.ensures ∙ c.link_at.ensures in
    let fail : length ns < meet ns q (link_of (node_at ns n) i) (meet_children ns q n i c.args.before) =
    subst (λ m. length ns < meet ns q (link_of (node_at ns n) i) m) c.loop-i.invariant.0 (subst (λ l. length ns < meet ns q l c.loop-i.met) link c.in_err-met.ensures) in
    rw c.from_residual.ensures
    (left_failed ns c.requires.0 n c.args.before c.args.k i (omega arith) c.loop-i-test.true c.if-n-before.false c.requires.1.1 c.requires.1.0 set fail)

pub loop-i-preserved : goal.loop-i-preserved
loop-i-preserved g t c =
    let ns = g.P.NodePool.nodes c.args.pool.now in
    let n = c.args.n in
    let i = c.loop-i.i in
    let q = c.args.k - 1 in
    let bits = ap (λ m. eqb (bit i m) 1) (sym c.mask_at.ensures) ∙ sym c.is_in.ensures in
    elim c.if-is_in.branch [
      | then-is_in+in_ok-met w ↦
          let told = w.in_ok-met.ensures in
          let link : w.from.result ≡ link_of (node_at ns n) i = w.from.ensures ∙ w.link_at.ensures in (
            w.met-is ∙ told.0 ∙ ap₂ (meet ns q) link c.loop-i.invariant.0 ∙ sym (kids_there ns q n i c.args.before (bits ∙ w.if-is_in.true)),
            subst (λ m. m ≤ length ns) (sym w.met-is) told.1,
          )
      | else-is_in w ↦
          (w.met-is ∙ c.loop-i.invariant.0 ∙ sym (kids_absent ns q n i c.args.before (bits ∙ w.if-is_in.false)), subst (λ m. m ≤ length ns) (sym w.met-is) c.loop-i.invariant.1)
    ]

pub met_with-requires : goal.met_with-requires
met_with-requires g t c =
    let pool = c.args.pool.now in
    let inside = here_inside (g.P.NodePool.nodes pool) c.requires.0 c.args.n c.args.before c.args.k (omega arith) c.requires.1.0 in
    omega (arith, g.P.NodePool.within pool, g.P.NodePool.bounded pool)

pub returns : goal.returns
returns g t c =
    let ns = g.P.NodePool.nodes c.args.pool.now in
    let e : c.loop-i.i ≡ 8 = omega arith in
    left_by ns c.requires.0 c.args.k c.args.n c.args.before c.loop-i.met (omega arith) c.requires.1.0 c.if-n-before.false
    (c.loop-i.invariant.0 ∙ ap (λ i. meet_children ns (c.args.k - 1) c.args.n i c.args.before) e) c.met_with.result c.met_with.ensures
