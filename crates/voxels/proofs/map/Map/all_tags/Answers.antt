use Rattle.std.proofs.Common.{refl, arith, rules}
use Rattle.std.proofs.lemmas.Iterator.{YieldsList-from_range}
use Rattle.std.proofs.lemmas.Iterator.Search.{all_from_yields_List}
use Rattle.voxels.specs.Adopts.{tag_at}
use Rattle.voxels.proofs.Adopting.{tags_tested}
use Rattle.voxels.proofs.map.Map.all_tags.Goals as goal

pub returns : goal.returns
returns g c =
    let words = g.S.TagStore.words c.args.store.now in
    let count = c.count.result in
    let e = all_from_yields_List (tag_at g.K.TagKind.reading words) _ _ c.all.result c.all.ensures.ran (YieldsList-from_range 0 count count refl (omega arith)) (λ x b q k. search rules) in
    tags_tested g.K.TagKind.reading words count c.all.result c.count.ensures e
