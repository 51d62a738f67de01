use Rattle.std.proofs.Common.{◌≡◌, ◌≤◌, length, sym, refl, ap, ◌∙◌, subst}
use Rattle.dag.specs.Sealed.{below, sealed}
use Rattle.voxels.specs.Stages.{AtStage}
use Rattle.voxels.proofs.Sealing.{begins_at, nothing_placed, open_is, seals, seal_gives}
use Rattle.voxels.proofs.map.Map.seal.Goals as goal
use Rattle.voxels.proofs.map.Map.seal.Goals.{in-Some+in_ok-rows, in_default}

pub returns-clause-tells : goal.returns-clause-tells
returns-clause-tells g c =
    let m = c.args.self.now in
    let x = c.match-last.self in
    let pool = g.P.NodePool in
    let count = c.in_ok-levels.levels.count in
    let is = open_is m.plain.phase m.plain.levels count c.in_ok-levels.ensures in
    elim c.match-last.branch [
      | in-Some+in_ok-rows w ↦
          let told = w.in_ok-rows.ensures in
          let e = w.self-is in
          λ L cells tags s.
          let at = begins_at g.K.TagKind.word_of L cells tags _ _ _ _ _ _ s w.in-Some.code w.in-Some.is in
          let begun = subst (λ l. AtStage l cells w.in-Some.code 0 (pool.nodes m.pool) m.plain.rows) (sym is.1) at in
          let list : pool.nodes x.pool ≡ sealed L cells =
          ap (λ a. pool.nodes a.pool) e ∙ (told.closed cells begun).list ∙ ap (below count cells) w.volume.ensures ∙ ap (λ l. sealed l cells) (is.1 ∙ s.levels_are) in
          let room : length (sealed L cells) ≤ pool.capacity m.pool =
          subst (λ xs. length xs ≤ pool.capacity m.pool) list (subst (λ n. length (pool.nodes x.pool) ≤ n) (ap (λ a. pool.capacity a.pool) e ∙ told.grown.fixed) (pool.within x.pool)) in (
            seal_gives L cells (pool.capacity m.pool) room,
            seals g.K.TagKind.word_of L cells tags _ _ _ _ _ _ s _ count _ _ refl is.1 list (ap (λ a. g.S.TagStore.words a.store) e),
          )
      | in_default w ↦
          let e = w.self-is in
          λ L cells tags s.
          let list : pool.nodes x.pool ≡ sealed L cells =
          ap (λ a. pool.nodes a.pool) e ∙ nothing_placed g.K.TagKind.word_of L cells tags _ _ _ _ _ _ s w.in_default.is in
          let room : length (sealed L cells) ≤ pool.capacity m.pool =
          subst (λ xs. length xs ≤ pool.capacity m.pool) list (subst (λ n. length (pool.nodes x.pool) ≤ n) (ap (λ a. pool.capacity a.pool) e) (pool.within x.pool)) in (
            seal_gives L cells (pool.capacity m.pool) room,
            seals g.K.TagKind.word_of L cells tags _ _ _ _ _ _ s _ count _ _ refl is.1 list (ap (λ a. g.S.TagStore.words a.store) e),
          )
    ]
