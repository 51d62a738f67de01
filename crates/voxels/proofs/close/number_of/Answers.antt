use Rattle.std.proofs.Common.{arith}
use Rattle.std.proofs.lemmas.Result.{err_from_is_err_and}
use Rattle.voxels.proofs.Numbering.{found_inside, found_lowest, found_written, absent_new, added_numbered, refused_full}
use Rattle.voxels.proofs.Growing.{grown_self, grows}
use Rattle.voxels.proofs.close.number_of.Goals as goal

pub overflow_cast-result : goal.overflow_cast-result
overflow_cast-result g c =
    let pool = c.args.pool.now in
    let inside = found_inside (g.P.NodePool.nodes pool) c.args.node.now c.in-Some.number c.in-Some.ensures in
    let within = g.P.NodePool.within pool in
    let bounded = g.P.NodePool.bounded pool in
    omega arith

pub returns-in-Some : goal.returns-in-Some
returns-in-Some g c =
    let ns = g.P.NodePool.nodes c.args.pool.now in
    let node = c.args.node.now in
    record {
      answers = (found_lowest ns node c.in-Some.number c.in-Some.ensures, found_written ns node c.in-Some.number c.in-Some.ensures);
      grown = grown_self g.P.NodePool c.args.pool.now;
    }

pub returns-in_err-number : goal.returns-in_err-number
returns-in_err-number g c =
    let p = err_from_is_err_and c.from_residual.result c.from_residual.ensures.1 in
    let ns = g.P.NodePool.nodes c.args.pool.now in
    let node = c.args.node.now in
    let told = c.in_err-number.ensures in
    rw (p.1, p.2)
    record {
      answers = refused_full ns node (absent_new ns node c.in_default.ensures) (g.P.NodePool.capacity c.args.pool.now) _ (g.P.NodePool.nodes c.add.new.self) told.list told.answers;
      grown = record { list = grows ns (g.P.NodePool.capacity c.args.pool.now) node (g.P.NodePool.nodes c.add.new.self) told.list; fixed = told.fixed; untouched = told.untouched; kept = told.kept };
    }

pub returns : goal.returns
returns g c =
    let ns = g.P.NodePool.nodes c.args.pool.now in
    let node = c.args.node.now in
    let told = c.in_ok-number.ensures in
    record {
      answers = added_numbered ns node (absent_new ns node c.in_default.ensures) (g.P.NodePool.capacity c.args.pool.now) c.in_ok-number.number (g.P.NodePool.nodes c.add.new.self) told.list told.answers;
      grown = record { list = grows ns (g.P.NodePool.capacity c.args.pool.now) node (g.P.NodePool.nodes c.add.new.self) told.list; fixed = told.fixed; untouched = told.untouched; kept = told.kept };
    }
