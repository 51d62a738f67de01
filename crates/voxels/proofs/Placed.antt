-- What place makes of an open map.
use Rattle.std.proofs.Common.{◌≡◌, ℕ, ◌+◌, ◌^◌, ◌<◌, ◌≤◌, Bool, true, false, cond, not, ltb, leb, List, [], ◌∷◌, ◌++◌, length, Some, None, Ok, Err, Option, inl, inr, sym, refl, ap, ◌∙◌, subst, arith}
use mathlib.Core.List.{map-append}
use Rattle.std.specs.List.{AllByRecursion}
use Rattle.std.proofs.ByRecursion.{All-weaker, All-push}
use Rattle.std.proofs.lemmas.List.{length_push}
use Rattle.std.proofs.lemmas.Bool.{lt-ltb, le-ltb, le-leb, lt-leb}
use Rattle.cells.specs.Refusals.{Answer, gives, refuses, refuse_if, number_of}
use Rattle.cells.specs.declared.refusal.Refusal.{Refusal}
use Rattle.cells.specs.Hall.{levels_fit}
use Rattle.cells.proofs.Codes.{levels_fit_lem}
use Rattle.nodes.specs.declared.node.Node.{Node}
use Rattle.nodes.specs.Pools.{Memory}
use Rattle.tags.specs.Stores.{can_add}
use Rattle.dag.specs.Sets.{holds, count, CellSet}
use Rattle.dag.specs.Sealed.{below}
use Rattle.dag.specs.Rows.{stage_row}
use Rattle.dag.proofs.Depends.{below_none}
use Rattle.dag.proofs.Next.{set_push, push_last, push_one, first_last, first_one, rows_ready, counts_ready, rows_start, counts_start}
use Rattle.voxels.specs.declared.phase.Phase.{Phase}
use Rattle.voxels.specs.declared.phase.Phase.TheVariants.{Open}
use Rattle.voxels.specs.declared.row.OpenRow.{OpenRow}
use Rattle.voxels.specs.Closes.{RowsFor}
use Rattle.voxels.specs.Places.{CellTaken, place_told, place_early, Early}
use Rattle.voxels.specs.Stages.{AtStage, Closed}
use Rattle.voxels.specs.Stands.{OpenAs, Building, EmptyRows}
use Rattle.voxels.proofs.Few.{holds_above, holds_none}
use Rattle.voxels.proofs.Placing.{cell_placed}
use Rattle.voxels.proofs.Sealing.{begins_at}

-- ---- the answer

module _ (L : ℕ) (cells : List ℕ) (room : ℕ) (admits : List ℕ → Bool) (words : List ℕ) (code word : ℕ) (inside : code < 8 ^ L) where
  -- what comes after the tests for the store, for the pool and for the cells
  abbrev stored : Answer (Unit {0})
  stored = refuse_if (not (can_add admits words word)) 7 (gives tt)

  abbrev roomy : Answer (Unit {0})
  roomy = refuse_if (ltb room (length (below L cells code))) 6 stored

  in_hall : place_told L cells room admits words code word ≡ refuse_if (holds cells code (8 ^ L)) 4 roomy
  in_hall = ap (λ b. refuse_if b 3 (refuse_if (holds cells code (8 ^ L)) 4 roomy)) (lt-leb (8 ^ L) code inside)

  pub told_not_above : holds cells code (8 ^ L) ≡ true → refuses 4 ≡ place_told L cells room admits words code word
  told_not_above h = sym (in_hall ∙ ap (λ b. refuse_if b 4 roomy) h)

  module _ (above : holds cells code (8 ^ L) ≡ false) where
    is_above : place_told L cells room admits words code word ≡ roomy
    is_above = in_hall ∙ ap (λ b. refuse_if b 4 roomy) above

    pub told_full : (n : ℕ) → n ≡ 6 → room < length (below L cells code) → refuses n ≡ place_told L cells room admits words code word
    told_full n e h = ap refuses e ∙ sym (is_above ∙ ap (λ b. refuse_if b 6 stored) (lt-ltb room (length (below L cells code)) h))

    pub told_store : (a : Answer (Unit {0})) → a ≡ refuse_if (not (can_add admits words word)) 7 (gives tt) → length (below L cells code) ≤ room
        → a ≡ place_told L cells room admits words code word
    told_store a e h = e ∙ sym (is_above ∙ ap (λ b. refuse_if b 6 stored) (le-ltb room (length (below L cells code)) h))

no_cells : (a b : ℕ) → holds [] a b ≡ false
unfolding count
no_cells a b = refl

-- a code that is not above the last is refused early
pub early_not_above : (phase : Phase) (L m code : ℕ) (last : Option ℕ) → phase ≡ Open → last ≡ Some m → code < 8 ^ L → code ≤ m → Early (place_early phase L last code) (refuses 4)
early_not_above phase L m code last e f h l =
    subst (λ p. Early (place_early p L last code) (refuses 4)) (sym e)
    (subst (λ o. Early (place_early Open L o code) (refuses 4)) (sym f) (go (leb (8 ^ L) code) (leb code m) (lt-leb (8 ^ L) code h) (le-leb code m l)))
  where
    go : (a b : Bool) → a ≡ false → b ≡ true → Early (cond a (Some 3) (cond b (Some 4) None)) (refuses 4)
    go false true p q = refl
    go true b p q = let z : ◌≡◌ {A = ℕ} 0 1 = cc in absurd (omega arith)
    go false false p q = let z : ◌≡◌ {A = ℕ} 0 1 = cc in absurd (omega arith)

-- ---- the map with the cell

-- the first cell
first_stage : (L code : ℕ) (rows after : List OpenRow) → levels_fit L ≡ true → code < 8 ^ L → EmptyRows rows → CellTaken rows code after
    → AtStage L (code ∷ []) code 0 (below L [] code) after
first_stage L code rows after fit h empty taken =
    let l = levels_fit_lem L fit in
    cell_placed L [] code l.1 l.0 (set_push L [] code (record { rising = tt; inside = tt }) tt h) (first_last code) (first_one code) rows after taken
    (λ j b. (empty j (omega (arith, l.1))).0 ∙ rows_start L code j)
    (λ j b. (empty j (omega (arith, l.1))).1 ∙ counts_start L code j)
    (below L [] code) refl

-- a later cell
later_stage : (L : ℕ) (cells : List ℕ) (m code : ℕ) (ms : List Node) (rows after : List OpenRow) → levels_fit L ≡ true → CellSet L (cells ++ code ∷ []) → m < code
    → Closed L cells m code ms rows → CellTaken rows code after → AtStage L (cells ++ code ∷ []) code 0 ms after
later_stage L cells m code ms rows after fit all h closed taken =
    let l = levels_fit_lem L fit in
    let at = closed.stage in
    cell_placed L cells code l.1 l.0 all (push_last cells m code at.last h) (push_one cells m code at.last h) rows after taken
    (λ j b. at.nodes j b ∙ ap (λ xs. stage_row cells xs m closed.level j) at.list
    ∙ rows_ready L cells m code closed.level at.last h closed.within closed.parted closed.together j b)
    (λ j b. at.counts j b ∙ counts_ready L cells m code closed.level at.last h closed.within closed.parted closed.together j b)
    ms closed.list

module _ {K : Type 0} (word_of : K → ℕ) (L : ℕ) (cells : List ℕ) (tags : List K) (phase : Phase) (levels : ℕ) (last : Option ℕ) (ns : List Node) (rows : List OpenRow) (words : List ℕ)
    (stands : OpenAs word_of L cells tags phase levels last ns rows words) (code : ℕ) (h : code < 8 ^ levels) where
  pub code_inside : code < 8 ^ L
  code_inside = subst (λ l. code < 8 ^ l) stands.levels_are h

  module _ (e : last ≡ None) where
    start : Building L cells None ns rows
    start = subst (λ o. Building L cells o ns rows) e stands.building

    pub first_above : holds cells code (8 ^ L) ≡ false
    first_above = subst (λ cs. holds cs code (8 ^ L) ≡ false) (sym start.0) (no_cells code (8 ^ L))

    pub first_list : ns ≡ below L cells code
    first_list = start.1 ∙ sym (below_none L code) ∙ ap (λ cs. below L cs code) (sym start.0)

  module _ (m : ℕ) (e : last ≡ Some m) where
    building : Building L cells (Some m) ns rows
    building = subst (λ o. Building L cells o ns rows) e stands.building

    pub later_above : m < code → holds cells code (8 ^ L) ≡ false
    later_above l = holds_none L cells m code stands.set.inside building.1.placed building.1.last l

    pub later_not : code ≤ m → holds cells code (8 ^ L) ≡ true
    later_not l = holds_above L cells m code stands.set.inside building.1.placed building.1.last l

  -- the rows for the cell: a refusal is what place tells
  pub rows_refused : (o : Option ℕ) → last ≡ o → (room : ℕ) (admits : List ℕ → Bool) (word : ℕ) (memory after : Memory) (ms : List Node) (e : Refusal)
      → RowsFor levels code o ns memory room rows ms after (Err e) → refuses (number_of e) ≡ place_told L cells room admits words code word
  rows_refused None z room admits word memory after ms e r = absurd r
  rows_refused (Some m) z room admits word memory after ms e r =
      elim r.1 [
        | inl p ↦ ap refuses p.1 ∙ told_not_above L cells room admits words code word code_inside (later_not m z p.0)
        | inr p ↦ told_full L cells room admits words code word code_inside (later_above m z p.0) (number_of e) p.1.1
            (subst (λ l. room < length (below l cells code)) stands.levels_are (p.1.2 cells (begins_at word_of L cells tags phase levels last ns rows words stands m z)))
      ]

  -- and otherwise the cell is above all others, and the list is that of the sub-cubes below it
  pub rows_taken : (o : Option ℕ) → last ≡ o → (room : ℕ) (memory after : Memory) (ms : List Node) (left : List OpenRow)
      → RowsFor levels code o ns memory room rows ms after (Ok left) → (holds cells code (8 ^ L) ≡ false) × (ms ≡ below L cells code)
  rows_taken None z room memory after ms left r = (first_above z, r.0.0 ∙ first_list z)
  rows_taken (Some m) z room memory after ms left r =
      let closed = r.1 cells (begins_at word_of L cells tags phase levels last ns rows words stands m z) in
      (later_above m z r.0, closed.list ∙ ap (λ l. below l cells code) stands.levels_are)

  -- what add-cell leaves, where all cells are below the code
  module _ (tag : K) (phase' : Phase) (levels' : ℕ) (last' : Option ℕ) (ms : List Node) (after : List OpenRow) (words' : List ℕ)
      (p : phase' ≡ phase) (q : levels' ≡ levels) (r : last' ≡ Some code) (w : words' ≡ words ++ word_of tag ∷ []) where
    open_more : AllByRecursion (λ d. d < code) cells → AtStage L (cells ++ code ∷ []) code 0 ms after
        → OpenAs word_of L (cells ++ code ∷ []) (tags ++ tag ∷ []) phase' levels' last' ms after words'
    open_more l at = record {
      phase_is = p ∙ stands.phase_is;
      levels_are = q ∙ stands.levels_are;
      set = set_push L cells code stands.set l code_inside;
      building = subst (λ o. Building L (cells ++ code ∷ []) o ms after) (sym r)
          (All-push (λ d. d ≤ code) cells code (All-weaker (λ d. d < code) (λ d. d ≤ code) (λ d b. omega arith) cells l) (omega arith), at);
      words_are = w ∙ ap (λ ws. ws ++ word_of tag ∷ []) stands.words_are ∙ sym (map-append word_of tags (tag ∷ []));
      tag_each = length_push tags tag ∙ ap (λ n. n + 1) stands.tag_each ∙ sym (length_push cells code);
    }

    module _ (fit : levels_fit levels ≡ true) (left : List OpenRow) (taken : CellTaken left code after) where
      fits : levels_fit L ≡ true
      fits = subst (λ l. levels_fit l ≡ true) stands.levels_are fit

      pub first_open : last ≡ None → ms ≡ ns → left ≡ rows
          → OpenAs word_of L (cells ++ code ∷ []) (tags ++ tag ∷ []) phase' levels' last' ms after words' × (ms ≡ below L cells code)
      first_open e f g =
          let b = start e in
          let list : ms ≡ below L cells code = f ∙ first_list e in (
            open_more (subst (AllByRecursion (λ d. d < code)) (sym b.0) tt)
                (subst (λ xs. AtStage L (cells ++ code ∷ []) code 0 xs after) (sym list)
                (subst (λ cs. AtStage L (cs ++ code ∷ []) code 0 (below L cs code) after) (sym b.0)
                (first_stage L code left after fits code_inside (subst EmptyRows (sym g) b.2) taken))),
            list,
          )

      pub later_open : (m : ℕ) → last ≡ Some m → m < code → Closed levels cells m code ms left
          → OpenAs word_of L (cells ++ code ∷ []) (tags ++ tag ∷ []) phase' levels' last' ms after words' × (ms ≡ below L cells code)
      later_open m e l closed =
          let b = building m e in
          let c : Closed L cells m code ms left = subst (λ k. Closed k cells m code ms left) stands.levels_are closed in
          let all = All-weaker (λ d. d ≤ m) (λ d. d < code) (λ d k. omega arith) cells b.0 in
          (open_more all (later_stage L cells m code ms left after fits (set_push L cells code stands.set all code_inside) l c taken), c.list)

      -- so the rows for the cell leave a map that stands for one cell more
      pub rows_open : (o : Option ℕ) → last ≡ o → (room : ℕ) (memory pool : Memory) (grown : List Node) → ms ≡ grown
          → RowsFor levels code o ns memory room rows grown pool (Ok left)
          → OpenAs word_of L (cells ++ code ∷ []) (tags ++ tag ∷ []) phase' levels' last' ms after words' × (ms ≡ below L cells code)
      rows_open None z room memory pool grown same r = first_open z (same ∙ r.0.0) r.1
      rows_open (Some m) z room memory pool grown same r =
          later_open m z r.0 (subst (λ xs. Closed levels cells m code xs left) (sym same) (r.1 cells (begins_at word_of L cells tags phase levels last ns rows words stands m z)))
