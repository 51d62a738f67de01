use Rattle.voxels.proofs.Descent.{near_fits}
use Rattle.voxels.proofs.Strictly.{over_nothing, over_swept}
use Rattle.voxels.proofs.map.Map.over_box.Goals as goal

pub sweep-requires : goal.sweep-requires
sweep-requires g c = record {
  ready = c.in-Some.ensures.ready.0;
  near = near_fits c.args.levels.count c.args.bounds.now.high c.args.levels.high c.requires.high;
}

pub returns-in-Some : goal.returns-in-Some
returns-in-Some g c =
    let m = c.args.self.now in
    let told = c.in-Some.ensures in
    over_swept g.K.TagKind.reading g.K.RankedKind.stricter c.args.levels.count (g.P.NodePool.nodes m.pool) (g.S.TagStore.words m.store) c.args.bounds.now
    c.args.levels.high c.in-Some.root told.ready.1 (told.visits c.args.bounds.now c.requires.low) c.sweep.new.best c.sweep.ensures

pub returns-in_default : goal.returns-in_default
returns-in_default g c =
    let m = c.args.self.now in
    over_nothing g.K.TagKind.reading g.K.RankedKind.stricter c.args.levels.count (g.P.NodePool.nodes m.pool) (g.S.TagStore.words m.store) c.args.bounds.now
    (c.in_default.ensures.visits c.args.bounds.now c.requires.low)
