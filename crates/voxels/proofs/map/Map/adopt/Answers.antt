use Rattle.std.proofs.Common.{◌≡◌, ◌≤◌, length, None, sym, ap, ◌∙◌, subst, ℕ, arith}
use Rattle.nodes.specs.Records.{none}
use Rattle.voxels.specs.declared.phase.Phase.TheVariants.{Sealed}
use Rattle.voxels.specs.Adopts.{Verdict}
use Rattle.voxels.specs.Phases.{refused_by, void_by}
use Rattle.voxels.proofs.Adopting.{stands_marked, fits_sealed, no_reason}
use Rattle.voxels.proofs.map.Map.adopt.Goals as goal
use Rattle.voxels.proofs.map.Map.adopt.Goals.{in-Ok, in-Err}

pub returns : goal.returns
returns g c =
    let pool = c.args.pool in
    let ns = g.P.NodePool.nodes pool in
    let words = g.S.TagStore.words c.args.store in
    let L = c.args.levels in
    let word_of = g.K.TagKind.word_of in
    let reading = g.K.TagKind.reading in
    let few : length ns ≤ none = omega (arith, g.P.NodePool.within pool, g.P.NodePool.bounded pool) in
    let made : (void_by c.match-judged.phase ≡ refused_by c.judged.result) × (void_by c.match-judged.phase ≡ None → c.match-judged.phase ≡ Sealed) =
    elim c.match-judged.branch [
      | in-Ok w ↦ (ap void_by w.phase-is ∙ sym (ap refused_by w.in-Ok.is), λ z. w.phase-is)
      | in-Err w ↦ (ap void_by w.phase-is ∙ sym (ap refused_by w.in-Err.is), λ z. let e = sym (ap void_by w.phase-is) ∙ z in let y : ◌≡◌ {A = ℕ} 0 1 = cc in absurd (omega arith))
    ] in
    let phase = ap (λ p. p.phase) c.over.ensures.2 ∙ c.in_phase.ensures.phase in
    let levels = ap (λ p. p.levels) c.over.ensures.2 ∙ c.in_phase.ensures.levels in
    let nodes = ap (λ p. g.P.NodePool.nodes p) c.over.ensures.0 in
    let stored = ap (λ s. g.S.TagStore.words s) c.over.ensures.1 in
    let told = subst (Verdict reading L ns words) (sym made.0 ∙ sym (ap void_by phase)) c.judged.ensures in
    let taken : void_by c.over.result.plain.phase ≡ None → c.over.result.plain.phase ≡ Sealed = λ e. phase ∙ made.1 (sym (ap void_by phase) ∙ e) in
    record {
      untouched = (c.over.ensures.0, c.over.ensures.1);
      reason = told;
      stands = λ e. stands_marked word_of reading L ns words few g.met.K.TagKind.only _ _ _ _ (taken e) levels nodes stored (subst (Verdict reading L ns words) e told);
      taken = λ cells tags fit set list is long.
          let e = no_reason word_of reading L ns words few _ told fit (cells, set, list) (fits_sealed word_of reading L ns words few g.met.K.TagKind.back cells tags fit set list is long) in
          record { phase_is = taken e; levels_are = levels; set = set; list = nodes ∙ list; words_are = stored ∙ is; tag_each = long };
    }
