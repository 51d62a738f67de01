use Rattle.std.proofs.Common.{◌≡◌, ◌≤◌, length, arith}
use Rattle.std.proofs.lemmas.Grind.{common_steps}
use Rattle.cells.specs.Refusals.{gives}
use Rattle.nodes.specs.Records.{none}
use Rattle.voxels.specs.Shown.{shown}
use Rattle.voxels.specs.Tells.{looked}
use Rattle.voxels.proofs.Looking.{look_by}
use Rattle.voxels.proofs.map.Map.look.Goals as goal

pub returns-clause-tells : goal.returns-clause-tells
returns-clause-tells g c =
    let m = c.args.self.now in
    let here = shown g.P.NodePool g.S.TagStore m in
    let few : length (g.P.NodePool.nodes m.pool) ≤ none = omega (arith, g.P.NodePool.within m.pool, g.P.NodePool.bounded m.pool) in
    let e : gives c.found_at.result ≡ looked g.K.TagKind.reading here c.args.cell = grind (arith, common_steps) in
    look_by g.K.TagKind.reading g.K.TagKind.word_of g.met.K.TagKind.back here c.args.cell _ m.plain.fit few e
