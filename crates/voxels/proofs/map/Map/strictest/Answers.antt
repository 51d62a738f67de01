use Rattle.std.proofs.Common.{◌≡◌, ◌≤◌, length, arith}
use Rattle.std.proofs.lemmas.Grind.{common_steps}
use Rattle.std.proofs.lemmas.Result.{err_from_is_err_and}
use Rattle.cells.specs.Refusals.{answer, gives}
use Rattle.nodes.specs.Records.{none}
use Rattle.voxels.specs.Phases.{if_sealed}
use Rattle.voxels.specs.Shown.{shown}
use Rattle.voxels.specs.Strict.{strictest_answer}
use Rattle.voxels.proofs.Strictly.{box_refused_by, strictest_by, strictest_of}
use Rattle.voxels.proofs.map.Map.strictest.Goals as goal

pub returns-in_err-bounds : goal.returns-in_err-bounds
returns-in_err-bounds g c =
    let m = c.args.self.now in
    let here = shown g.P.NodePool g.S.TagStore m in
    let few : length (g.P.NodePool.nodes m.pool) ≤ none = omega (arith, g.P.NodePool.within m.pool, g.P.NodePool.bounded m.pool) in
    let sealed : gives c.in_ok-levels.levels.count ≡ if_sealed m.plain.phase (gives m.plain.levels) = grind (arith, common_steps) in
    let p = err_from_is_err_and c.from_residual-in_err-bounds.result c.from_residual-in_err-bounds.ensures.1 in
    let e : answer c.from_residual-in_err-bounds.result ≡ strictest_answer g.K.TagKind.reading g.K.RankedKind.stricter here c.args.low c.args.high =
    rw (p.1, p.2)
    (box_refused_by g.K.TagKind.reading g.K.RankedKind.stricter here c.args.low c.args.high c.in_ok-levels.levels.count _ _ sealed c.in_err-bounds.ensures) in
    record {
      looks = e;
      strictest = strictest_of g.K.TagKind.reading g.K.RankedKind.stricter g.met.K.RankedKind.total g.met.K.RankedKind.through here c.args.low c.args.high _ e;
      tells = strictest_by g.K.TagKind.reading g.K.TagKind.word_of g.met.K.TagKind.back g.K.RankedKind.stricter here c.args.low c.args.high _ m.plain.fit few e;
    }

pub returns : goal.returns
returns g c =
    let m = c.args.self.now in
    let here = shown g.P.NodePool g.S.TagStore m in
    let few : length (g.P.NodePool.nodes m.pool) ≤ none = omega (arith, g.P.NodePool.within m.pool, g.P.NodePool.bounded m.pool) in
    let e : gives c.over_box.result ≡ strictest_answer g.K.TagKind.reading g.K.RankedKind.stricter here c.args.low c.args.high = grind (arith, common_steps) in
    record {
      looks = e;
      strictest = strictest_of g.K.TagKind.reading g.K.RankedKind.stricter g.met.K.RankedKind.total g.met.K.RankedKind.through here c.args.low c.args.high _ e;
      tells = strictest_by g.K.TagKind.reading g.K.TagKind.word_of g.met.K.TagKind.back g.K.RankedKind.stricter here c.args.low c.args.high _ m.plain.fit few e;
    }
