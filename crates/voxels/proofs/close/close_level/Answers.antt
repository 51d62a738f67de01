use Rattle.std.proofs.Common.{refl, arith}
use Rattle.std.proofs.lemmas.Result.{err_from_is_err_and}
use Rattle.voxels.proofs.Closing.{stage_next, stage_refused, top_moves, parent_moves}
use Rattle.voxels.proofs.close.close_level.Goals as goal

pub returns-in_err-number : goal.returns-in_err-number
returns-in_err-number g c =
    let p = err_from_is_err_and c.from_residual.result c.from_residual.ensures.1 in
    let ns = g.P.NodePool.nodes c.args.pool.now in
    let told = c.in_err-number.ensures in
    rw (p.1, p.2)
    record {
      grown = told.grown;
      steps = (
        told.answers.0,
        told.answers.1,
        refl,
        λ cells at. stage_refused c.args.levels.count cells c.args.last c.args.r (g.P.NodePool.capacity c.args.pool.now) ns c.args.rows.now
            c.requires told.answers.2 told.answers.3 at,
      );
    }

pub returns-then-r-levels : goal.returns-then-r-levels
returns-then-r-levels g c =
    let ns = g.P.NodePool.nodes c.args.pool.now in
    let told = c.in_ok-number.ensures in
    record {
      grown = told.grown;
      steps = λ cells at. stage_next c.args.levels.count cells c.args.last c.args.r c.in_ok-number.number ns _ c.args.rows.now _
          c.requires told.answers.0 told.answers.1
          (parent_moves c.args.levels.count c.args.last c.args.r c.in_ok-number.number c.args.rows.now c.empty.result
          (omega arith) (c.empty.ensures.node c.args.r refl) c.empty.ensures.count
          c.take_child.new.self c.of.result.i (omega arith) c.of.ensures
          c.take_child.ensures.node c.take_child.ensures.count)
          at;
    }

pub returns-else-r-levels : goal.returns-else-r-levels
returns-else-r-levels g c =
    let ns = g.P.NodePool.nodes c.args.pool.now in
    let told = c.in_ok-number.ensures in
    record {
      grown = told.grown;
      steps = λ cells at. stage_next c.args.levels.count cells c.args.last c.args.r c.in_ok-number.number ns _ c.args.rows.now _
          c.requires told.answers.0 told.answers.1
          (top_moves c.args.levels.count c.args.last c.args.r c.in_ok-number.number c.args.rows.now c.empty.result
          (omega arith) (c.empty.ensures.node c.args.r refl) c.empty.ensures.count c.if-r-levels.false)
          at;
    }
