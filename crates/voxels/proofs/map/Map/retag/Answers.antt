use Rattle.std.proofs.Common.{◌≡◌, ◌≤◌, Some, None, length, sym, ap, ◌∙◌, subst, arith}
use Rattle.std.specs.Result.{result_ok}
use Rattle.std.proofs.lemmas.Grind.{common_steps}
use Rattle.cells.specs.Refusals.{answer, gives, refuses}
use Rattle.nodes.specs.Records.{none}
use Rattle.voxels.specs.Phases.{if_sealed}
use Rattle.voxels.specs.Retags.{Changes, retag_answer}
use Rattle.voxels.specs.Shown.{shown}
use Rattle.voxels.proofs.Retagging.{answered_by, changed_by, retag_by, with_words}
use Rattle.voxels.proofs.map.Map.retag.Goals as goal

pub returns-in_err-rank-clause-tells : goal.returns-in_err-rank-clause-tells
returns-in_err-rank-clause-tells g c =
    let m = c.args.self.now in
    let here = shown g.P.NodePool g.S.TagStore m in
    let few : length (g.P.NodePool.nodes m.pool) ≤ none = omega (arith, g.P.NodePool.within m.pool, g.P.NodePool.bounded m.pool) in
    let word = g.K.TagKind.word_of c.args.tag in
    let sealed : gives c.in_ok-levels.levels.count ≡ if_sealed m.plain.phase (gives m.plain.levels) = grind (arith, common_steps) in
    let none = sym (c.ok_or.ensures.ok_part ∙ ap result_ok c.in_err-rank.was) ∙ c.rank_of.ensures in
    let five : answer c.from_residual-in_err-rank.result ≡ refuses 5 = grind (arith, common_steps) in
    let e = answered_by here c.args.cell word _ c.in_ok-code.code _ sealed c.in_ok-code.ensures.value None none five in
    retag_by g.K.TagKind.word_of here here c.args.cell c.args.tag _ m.plain.fit few e (subst (λ a. Changes c.args.cell word here here a) (sym five) tt)

pub returns-clause-tells : goal.returns-clause-tells
returns-clause-tells g c =
    let m = c.args.self.now in
    let here = shown g.P.NodePool g.S.TagStore m in
    let after = with_words here (g.S.TagStore.words c.change.new.self) (g.S.TagStore.admits c.change.new.self) in
    let few : length (g.P.NodePool.nodes m.pool) ≤ none = omega (arith, g.P.NodePool.within m.pool, g.P.NodePool.bounded m.pool) in
    let sealed : gives c.in_ok-levels.levels.count ≡ if_sealed m.plain.phase (gives m.plain.levels) = grind (arith, common_steps) in
    let rank = sym (c.ok_or.ensures.ok_part ∙ ap result_ok c.in_ok-rank.was) ∙ c.rank_of.ensures in
    let a = answer c.change.result in
    retag_by g.K.TagKind.word_of here after c.args.cell c.args.tag a m.plain.fit few
    (subst (λ w. a ≡ retag_answer here c.args.cell w) c.word.ensures
    (answered_by here c.args.cell c.word.result _ c.in_ok-code.code a sealed c.in_ok-code.ensures.value (Some c.in_ok-rank.rank) rank c.change.ensures.answer))
    (subst (λ w. Changes c.args.cell w here after a) c.word.ensures
    (changed_by here c.args.cell c.word.result _ c.in_ok-code.code a sealed c.in_ok-code.ensures.value c.in_ok-rank.rank rank c.change.ensures.answer _ _ c.change.ensures.words c.change.ensures.rule))
