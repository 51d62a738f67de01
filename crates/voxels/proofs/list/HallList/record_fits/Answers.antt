use Rattle.std.proofs.Common.{◌≤◌, length, sym, arith}
use Rattle.nodes.specs.Records.{none}
use Rattle.voxels.proofs.Judges.{fits_from, lowest_from}
use Rattle.voxels.proofs.list.HallList.record_fits.Goals as goal

pub returns : goal.returns
returns g c =
    let pool = c.args.self.now.pool.now in
    let ns = g.P.NodePool.nodes pool in
    let few : length ns ≤ none = omega (arith, g.P.NodePool.within pool, g.P.NodePool.bounded pool) in
    let node = c.read-node.result in
    let shape = c.shaped.ensures in
    let n = c.args.n in (
      (λ t. fits_from c.args.self.now.levels.count ns few n c.requires.0 node c.read-node.ensures c.from-level.result c.from-level.ensures c.if-level-eq0.false
          shape.mask shape.links shape.offsets c.if-level-self.false c.if-node-eq0.false (c.children_fit.ensures.0 c.if-not-children_fit.false)
          (sym (c.stands_alone.ensures.0 t))),
      (λ p. c.stands_alone.ensures.1 (sym (lowest_from c.args.self.now.levels.count ns few n c.requires.0 node c.read-node.ensures c.from-level.result c.from-level.ensures c.if-level-eq0.false p))),
    )
