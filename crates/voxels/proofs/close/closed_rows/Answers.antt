use Rattle.std.proofs.Common.{sym, ◌∙◌, arith}
use Rattle.voxels.proofs.Closing.{below_full, closed_at}
use Rattle.voxels.proofs.Cutting.{back_list, back_memory, back_grown}
use Rattle.voxels.proofs.Growing.{grown_trans}
use Rattle.voxels.proofs.close.closed_rows.Goals as goal

pub returns-then-sub_cube : goal.returns-then-sub_cube
returns-then-sub_cube g c =
    let inv = c.loop-r.invariant in
    record {
      grown = inv.1;
      closed = λ cells at. closed_at c.args.levels.count cells c.args.last c.args.code c.loop-r.r _ _ c.requires (omega arith) inv.0
          (λ b. sym c.sub_cube.ensures ∙ c.if-sub_cube.true ∙ c.sub_cube-in-loop-r.ensures) (inv.2 cells at);
    }

pub returns-in-Err : goal.returns-in-Err
returns-in-Err g c =
    let pool = g.P.NodePool in
    let old = c.args.pool.now in
    let inv = c.loop-r.invariant in
    let told = c.in-Err.ensures in
    let cut = c.cut.ensures in
    let grown = grown_trans pool old c.loop-r.pool c.close_level.new.pool inv.1 told.grown in
    record {
      grown = back_grown pool old _ c.cut.new.self pool.holds c.count-before.result c.count-before.ensures grown cut.list cut.fixed cut.untouched cut.kept;
      closed = (
        (
          back_list pool old _ c.cut.new.self pool.holds c.count-before.result c.count-before.ensures grown cut.list cut.fixed cut.untouched cut.kept,
          back_memory pool old _ c.cut.new.self pool.holds c.count-before.result c.count-before.ensures grown cut.list cut.fixed cut.untouched cut.kept,
        ),
        told.steps.0,
        λ cells at.
            let stage = inv.2 cells at in
            let full = told.steps.3 cells stage in
            below_full c.args.levels.count cells c.args.last c.args.code c.loop-r.r (pool.capacity old) _ _ stage
            c.loop-r-test.true c.requires (λ e. c.if-sub_cube.false (c.sub_cube.ensures ∙ e ∙ sym c.sub_cube-in-loop-r.ensures)) (omega (arith, full.0, inv.1.fixed)) full.1,
      );
    }

pub loop-r-preserved : goal.loop-r-preserved
loop-r-preserved g c =
    let inv = c.loop-r.invariant in
    let told = c.in_default.ensures in (
      (λ e. c.if-sub_cube.false (c.sub_cube.ensures ∙ e ∙ sym c.sub_cube-in-loop-r.ensures)),
      grown_trans g.P.NodePool c.args.pool.now c.loop-r.pool c.close_level.new.pool inv.1 told.grown,
      λ cells at. told.steps cells (inv.2 cells at),
    )

pub returns : goal.returns
returns g c =
    let inv = c.loop-r.invariant in
    record {
      grown = inv.1;
      closed = λ cells at. closed_at c.args.levels.count cells c.args.last c.args.code c.loop-r.r _ _ c.requires (omega arith) inv.0
          (λ b. absurd (omega arith)) (inv.2 cells at);
    }
