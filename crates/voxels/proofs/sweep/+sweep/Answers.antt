use Rattle.std.proofs.Common.{◌≡◌, suc, ◌+◌, ◌-◌, ◌*◌, ◌^◌, sym, ap, ◌∙◌, subst, arith}
use Rattle.dag.specs.Records.{first}
use Rattle.voxels.specs.Strict.{Took, tags_from}
use Rattle.voxels.specs.Sweeps.{look_at}
use Rattle.voxels.proofs.Summing.{took_none}
use Rattle.voxels.proofs.Sweeping.{tags_cell, tags_start, tags_all, child_nothing, child_taken, tags_up_to}
use Rattle.voxels.proofs.sweep.+sweep.Goals as goal
use Rattle.voxels.proofs.sweep.+sweep.Goals.{in-Some, in_default}

pub returns-then-visit-eq0 : goal.returns-then-visit-eq0
returns-then-visit-eq0 g t c = λ L s v.
    subst (λ ts. Took g.K.RankedKind.stricter c.args.best.now ts c.take_rank.new.best)
    (sym (tags_cell g.K.TagKind.reading g.K.RankedKind.stricter L (g.P.NodePool.nodes c.args.pool.now) (g.S.TagStore.words c.args.store.now) c.args.bounds.now s c.args.visit c.if-visit-eq0.true v))
    c.take_rank.ensures

pub loop-i-init : goal.loop-i-init
loop-i-init g t c = λ L s v.
    subst (λ ts. Took g.K.RankedKind.stricter c.args.best.now ts c.args.best.now)
    (sym (tags_start g.K.TagKind.reading g.K.RankedKind.stricter L (g.P.NodePool.nodes c.args.pool.now) (g.S.TagStore.words c.args.store.now) c.args.bounds.now (c.args.visit.level - 1) s))
    (took_none g.K.RankedKind.stricter c.args.best.now)

pub loop-i-preserved : goal.loop-i-preserved
loop-i-preserved g t c = λ L s v.
    let ns = g.P.NodePool.nodes c.args.pool.now in
    let words = g.S.TagStore.words c.args.store.now in
    elim c.match-child_visit.branch [
      | in-Some w ↦
          let ready = w.in-Some.ensures.ready in
          child_taken g.K.TagKind.reading g.K.RankedKind.stricter L ns words c.args.bounds.now (c.args.visit.level - 1) s c.loop-i.i
          c.args.best.now c.loop-i.best c.match-child_visit.best w.in-Some.next (omega (arith, ready.1))
          (c.loop-i.invariant L s v)
          (subst (λ b. Took g.K.RankedKind.stricter c.loop-i.best (tags_from L c.args.bounds.now (look_at g.K.TagKind.reading L ns words) (first w.in-Some.next.level (8 * s + c.loop-i.i)) (8 ^ w.in-Some.next.level)) b)
          (sym w.best-is) (w.sweep.ensures L (8 * s + c.loop-i.i) (w.in-Some.ensures.visits L s v)))
      | in_default w ↦
          subst (λ b. Took g.K.RankedKind.stricter c.args.best.now (tags_up_to g.K.TagKind.reading g.K.RankedKind.stricter L ns words c.args.bounds.now (c.args.visit.level - 1) s (c.loop-i.i + 1)) b) (sym w.best-is)
          (child_nothing g.K.TagKind.reading g.K.RankedKind.stricter L ns words c.args.bounds.now (c.args.visit.level - 1) s c.loop-i.i
          c.args.best.now c.loop-i.best (c.loop-i.invariant L s v) (w.in_default.ensures.visits L s v))
    ]

pub returns : goal.returns
returns g t c = λ L s v.
    let ns = g.P.NodePool.nodes c.args.pool.now in
    let words = g.S.TagStore.words c.args.store.now in
    let all : c.loop-i.i ≡ 8 = omega arith in
    let up : suc (c.args.visit.level - 1) ≡ c.args.visit.level = omega arith in
    subst (λ ts. Took g.K.RankedKind.stricter c.args.best.now ts c.loop-i.best)
    (ap (λ i. tags_from L c.args.bounds.now (look_at g.K.TagKind.reading L ns words) (first (c.args.visit.level - 1) (8 * s)) (i * 8 ^ (c.args.visit.level - 1))) all
    ∙ tags_all g.K.TagKind.reading g.K.RankedKind.stricter L ns words c.args.bounds.now (c.args.visit.level - 1) s
    ∙ ap (λ l. tags_from L c.args.bounds.now (look_at g.K.TagKind.reading L ns words) (first l s) (8 ^ l)) up)
    (c.loop-i.invariant L s v)
