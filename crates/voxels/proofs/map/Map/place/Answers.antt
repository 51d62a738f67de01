use Rattle.std.proofs.Common.{[], ◌∷◌, ◌++◌, not, ◌≡◌, ◌<◌, ◌^◌, ◌≤◌, length, refl, ap, ◌∙◌, subst}
use Rattle.std.specs.Prelude.{Ok, Err}
use Rattle.std.proofs.lemmas.Result.{err_from_is_err_and}
use Rattle.cells.specs.Refusals.{answer, gives, refuse_if}
use Rattle.tags.specs.Stores.{can_add}
use Rattle.voxels.specs.Closes.{RowsFor}
use Rattle.voxels.proofs.Cutting.{back_list, back_memory}
use Rattle.voxels.proofs.Placed.{rows_refused, rows_taken, rows_open, told_store, code_inside}
use Rattle.voxels.proofs.Sealing.{code_checked, open_is, open_fit}
use Rattle.voxels.proofs.Showing.{on_ok, on_err, same_shown}
use Rattle.voxels.proofs.map.Map.place.Goals as goal

pub returns-in_err-rows-clause-tells : goal.returns-in_err-rows-clause-tells
returns-in_err-rows-clause-tells g c =
    let p = err_from_is_err_and c.from_residual-in_err-rows.result c.from_residual-in_err-rows.ensures.1 in
    let m = c.args.self.now in
    let pool = g.P.NodePool in
    let is = open_is m.plain.phase m.plain.levels c.in_ok-levels.levels.count c.in_ok-levels.ensures in
    let h : c.args.code < 8 ^ m.plain.levels = subst (λ l. c.args.code < 8 ^ l) is.1 (code_checked _ _ c.in_ok-check_code.ensures) in
    let grown = c.rows_for.new.self.pool in
    let rows = subst (λ l. RowsFor l c.args.code m.plain.last (pool.nodes m.pool) (pool.memory m.pool) (pool.capacity m.pool) m.plain.rows (pool.nodes grown) (pool.memory grown) (Err c.in_err-rows.field-0.0)) is.1 c.in_err-rows.ensures.rows in
    rw (p.1, p.2)
    (λ L cells tags s. (
      rows_refused g.K.TagKind.word_of L cells tags _ _ _ _ _ _ s c.args.code h m.plain.last refl (pool.capacity m.pool) (g.S.TagStore.admits m.store) (g.K.TagKind.word_of c.args.tag) _ _ _ _ rows,
      tt,
    ))

pub returns-clause-kept : goal.returns-clause-kept
returns-clause-kept g c =
    let m = c.args.self.now in
    let pool = g.P.NodePool in
    let mid = c.rows_for.new.self in
    let new = c.add_cell.new.self in
    let told = c.add_cell.ensures in
    let rows = c.in_ok-rows.ensures in
    let fixed = told.fixed in
    on_err c.add_cell.result told.refused (λ x.
    let plain = x.1 ∙ rows.rest.1 in
    same_shown _ _ (ap (λ p. p.phase) plain) (ap (λ p. p.levels) plain) (ap (λ p. p.last) plain) (ap (λ p. p.rows) plain)
    (back_list pool m.pool mid.pool new.pool pool.holds c.count-before.result c.count-before.ensures rows.grown x.2 fixed.capacity fixed.behind x.3)
    (fixed.capacity ∙ rows.grown.fixed)
    (back_memory pool m.pool mid.pool new.pool pool.holds c.count-before.result c.count-before.ensures rows.grown x.2 fixed.capacity fixed.behind x.3)
    (fixed.behind ∙ rows.grown.untouched)
    (x.0 ∙ ap (λ s. g.S.TagStore.words s) rows.rest.0)
    (fixed.admits ∙ ap (λ s. g.S.TagStore.admits s) rows.rest.0))

pub returns-clause-tells : goal.returns-clause-tells
returns-clause-tells g c =
    let m = c.args.self.now in
    let pool = g.P.NodePool in
    let ns = pool.nodes m.pool in
    let mid = c.rows_for.new.self in
    let new = c.add_cell.new.self in
    let told = c.add_cell.ensures in
    let made = c.in_ok-rows.ensures in
    let is = open_is m.plain.phase m.plain.levels c.in_ok-levels.levels.count c.in_ok-levels.ensures in
    let fit = open_fit m.plain.phase m.plain.levels is.0 m.plain.fit in
    let h : c.args.code < 8 ^ m.plain.levels = subst (λ l. c.args.code < 8 ^ l) is.1 (code_checked _ _ c.in_ok-check_code.ensures) in
    let rows = subst (λ l. RowsFor l c.args.code m.plain.last ns (pool.memory m.pool) (pool.capacity m.pool) m.plain.rows (pool.nodes mid.pool) (pool.memory mid.pool) (Ok c.in_ok-rows.rows)) is.1 made.rows in
    let words = made.rest.0 in
    let word = g.K.TagKind.word_of c.args.tag in
    λ L cells tags s.
    let taken = rows_taken g.K.TagKind.word_of L cells tags _ _ _ _ _ _ s c.args.code h m.plain.last refl (pool.capacity m.pool) _ _ _ _ rows in (
      told_store L cells (pool.capacity m.pool) (g.S.TagStore.admits m.store) (g.S.TagStore.words m.store) c.args.code word
          (code_inside g.K.TagKind.word_of L cells tags _ _ _ _ _ _ s c.args.code h) taken.0 _
          (subst (λ st. answer c.add_cell.result ≡ refuse_if (not (can_add (g.S.TagStore.admits st) (g.S.TagStore.words st) word)) 7 (gives tt)) words told.answers)
          (subst (λ xs. length xs ≤ pool.capacity m.pool) taken.1 (subst (λ n. length (pool.nodes mid.pool) ≤ n) made.grown.fixed (pool.within mid.pool))),
      on_ok c.add_cell.result told.taken
          (λ x. rows_open g.K.TagKind.word_of L cells tags _ _ _ _ _ _ s c.args.code h c.args.tag
          new.plain.phase new.plain.levels new.plain.last (pool.nodes new.pool) new.plain.rows (g.S.TagStore.words new.store)
          (x.2 ∙ ap (λ p. p.phase) made.rest.1) (x.3 ∙ ap (λ p. p.levels) made.rest.1) x.4 (x.0 ∙ ap (λ st. g.S.TagStore.words st ++ word ∷ []) words)
          fit c.in_ok-rows.rows x.5 m.plain.last refl (pool.capacity m.pool) (pool.memory m.pool) _ _ (ap (λ p. pool.nodes p) x.1) rows),
    )
