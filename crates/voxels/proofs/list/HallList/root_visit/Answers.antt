use Rattle.std.proofs.Common.{refl, arith}
use Rattle.voxels.proofs.Descent.{root_visits}
use Rattle.voxels.proofs.list.HallList.root_visit.Goals as goal

pub returns : goal.returns
returns g c =
    let ns = g.P.NodePool.nodes c.args.self.now.pool.now in
    let root = c.in_ok-node.ensures in
    record {
      ready = (record { level = c.args.self.now.levels.high; node = omega (arith, root.last, root.some); rank = omega arith; near = record { x = omega arith; y = omega arith; z = omega arith } }, refl);
      visits = λ bounds fits. root_visits c.args.self.now.levels.count ns bounds _ refl refl root.last refl root.some root.level fits;
    }
