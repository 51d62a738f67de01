-- What retag answers on a map that stands for cells and tags, and what the map stands for after it.
use Rattle.std.proofs.Common.{◌≡◌, ℕ, ◌+◌, ◌^◌, ◌<◌, ◌≤◌, Bool, true, false, cond, not, ◌&&◌, List, length, set, Some, None, Option, sym, refl, ap, ◌∙◌, subst, ap₂, arith}
use Rattle.std.proofs.lemmas.Bool.{lt-ltb}
use Rattle.std.proofs.lemmas.List.{length-map, length-set, map-set}
use Rattle.cells.specs.Refusals.{Answer, gives, refuses, refuse_if}
use Rattle.cells.specs.Hall.{levels_fit, cell_fits, code_of}
use Rattle.cells.specs.declared.hall.Cell.{Cell}
use Rattle.cells.proofs.Checks.{passed, goes_on}
use Rattle.cells.proofs.Codes.{code_below, levels_fit_lem}
use Rattle.nodes.specs.Records.{none}
use Rattle.tags.specs.Stores.{can_change}
use Rattle.dag.specs.Sets.{CellSet, has, count}
use Rattle.dag.specs.Sealed.{sealed}
use Rattle.dag.specs.Walk.{marks, rank}
use Rattle.dag.specs.Laws.{Nameable}
use Rattle.dag.proofs.Counts.{count_split}
use Rattle.dag.proofs.Contents.{count_one}
use Rattle.dag.proofs.Judging.{length_count}
use Rattle.dag.proofs.Laws.{marks_cells, ranks_cells}
use Rattle.voxels.specs.declared.phase.Phase.TheVariants.{Sealed}
use Rattle.voxels.specs.Finds.{found}
use Rattle.voxels.specs.Shown.{Shown, Accepted, ShowsSealed}
use Rattle.voxels.specs.Phases.{if_sealed, levels_in}
use Rattle.voxels.specs.Retags.{Changes, RetagTells, retag_answer, retag_at, retag_told, with_word}
use Rattle.voxels.proofs.Looking.{sealed_fit, sealed_is}

-- a map with other words
abbrev pub with_words : Shown → List ℕ → (List ℕ → Bool) → Shown
with_words m words admits = record {
  phase = m.phase;
  levels = m.levels;
  last = m.last;
  rows = m.rows;
  nodes = m.nodes;
  capacity = m.capacity;
  memory = m.memory;
  behind = m.behind;
  words = words;
  admits = admits;
}

-- a code that was made is the cell's, and the cell lies in the hall
pub inside_code : (L : ℕ) (cell : Cell) (code : ℕ) → gives code ≡ refuse_if (not (levels_fit L)) 1 (refuse_if (not (cell_fits L cell)) 3 (gives (code_of L cell)))
    → (code ≡ code_of L cell) × (cell_fits L cell ≡ true)
inside_code L cell code e =
    let p = passed (not (levels_fit L)) 1 (refuse_if (not (cell_fits L cell)) 3 (gives (code_of L cell))) code e in
    let q = passed (not (cell_fits L cell)) 3 (gives (code_of L cell)) code p.1 in
    (same code (code_of L cell) q.1, held (cell_fits L cell) q.0)
  where
    same : (a b : ℕ) → gives a ≡ gives b → a ≡ b
    same a b e = cc

    held : (b : Bool) → not b ≡ false → b ≡ true
    held true e = refl
    held false e = let z : ◌≡◌ {A = ℕ} 0 1 = cc in absurd (omega arith)

-- a cell of the set has a rank below the number of cells
rank_below : (L : ℕ) (cells : List ℕ) (code : ℕ) → CellSet L cells → code < 8 ^ L → has cells code ≡ true → count cells 0 code < length cells
rank_below L cells code cs h e =
    let all = length_count cells (8 ^ L) cs.inside in
    let low = count_split cells 0 code (8 ^ L) (omega arith) (omega arith) in
    let here = count_split cells code (code + 1) (8 ^ L) (omega arith) (omega arith) in
    let one : count cells code (code + 1) ≡ 1 = count_one cells code cs.rising ∙ ap (λ b. cond {A = ℕ} b 1 0) e in
    omega arith

-- a change of a word that is there is taken exactly if the list after it is admitted
change_there : (admits : List ℕ → Bool) (words : List ℕ) (n w : ℕ) → n < length words → can_change admits words n w ≡ admits (set words n w)
change_there admits words n w h = ap (λ b. b && admits (set words n w)) (lt-ltb n (length words) h)

module _ {K : Type 0} (word_of : K → ℕ) (L : ℕ) (cells : List ℕ) (tags : List K) (m : Shown) (cell : Cell) (tag : K)
    (s : ShowsSealed word_of L cells tags m) (one : 1 ≤ m.levels) (few : length m.nodes ≤ none) where
  abbrev code : ℕ
  code = code_of L cell

  here_one : 1 ≤ L
  here_one = subst (λ l. 1 ≤ l) s.levels_are one

  here_few : Nameable (sealed L cells)
  here_few = subst (λ xs. length xs ≤ none) s.list few

  there : has cells code ≡ true → count cells 0 code < length m.words
  there e = omega (arith, rank_below L cells code s.set (code_below L cell) e, ap length s.words_are, length-map tags word_of, s.tag_each)

  -- the walk finds the cell's rank
  finds : found m.levels m.nodes (code_of m.levels cell) ≡ cond (has cells code) (Some (count cells 0 code)) None
  finds =
      ap (λ l. found l m.nodes (code_of l cell)) s.levels_are
      ∙ ap (λ xs. found L xs code) s.list
      ∙ ap (λ b. cond b (Some (rank L (sealed L cells) code)) None) (marks_cells L cells here_one here_few code (code_below L cell))
      ∙ go (has cells code) refl
    where
      go : (b : Bool) → has cells code ≡ b → cond b (Some (rank L (sealed L cells) code)) None ≡ cond b (Some (count cells 0 code)) None
      go true e = ap Some (ranks_cells L cells here_one code (code_below L cell) e)
      go false e = refl

  -- what retag answers, by the cells
  pub retag_tells : cell_fits m.levels cell ≡ true → (a : Answer (Unit {0})) → a ≡ retag_at m (word_of tag) (found m.levels m.nodes (code_of m.levels cell))
      → a ≡ retag_told L cells m cell (word_of tag)
  retag_tells fits a e =
      e ∙ ap (retag_at m (word_of tag)) finds ∙ go (has cells code) refl
      ∙ sym (goes_on (cell_fits L cell) 3 (refuse_if (not (has cells code)) 5 (refuse_if (not (m.admits (set m.words (count cells 0 code) (word_of tag)))) 7 (gives tt)))
      (ap (λ l. cell_fits l cell) (sym s.levels_are) ∙ fits))
    where
      go : (b : Bool) → has cells code ≡ b
          → retag_at m (word_of tag) (cond b (Some (count cells 0 code)) None) ≡ refuse_if (not b) 5 (refuse_if (not (m.admits (set m.words (count cells 0 code) (word_of tag)))) 7 (gives tt))
      go true f = ap (λ b. refuse_if (not b) 7 (gives tt)) (change_there m.admits m.words (count cells 0 code) (word_of tag) (there f))
      go false f = refl

  -- an accepted retag stood at a cell of the set
  stood : (a : Answer (Unit {0})) → a ≡ retag_told L cells m cell (word_of tag) → a ≡ gives tt → has cells code ≡ true
  stood a e f = go (cell_fits L cell) (has cells code) refl (sym f ∙ e)
    where
      go : (b h : Bool) → has cells code ≡ h → ◌≡◌ {A = Answer (Unit {0})} (gives tt) (refuse_if (not b) 3 (refuse_if (not h) 5 (refuse_if (not (m.admits (set m.words (count cells 0 code) (word_of tag)))) 7 (gives tt)))) → has cells code ≡ true
      go true true q e = q
      go true false q e = let z : ◌≡◌ {A = Answer (Unit {0})} (gives tt) (refuses 5) = e in let y : ◌≡◌ {A = ℕ} 0 1 = cc in absurd (omega arith)
      go false h q e = let z : ◌≡◌ {A = Answer (Unit {0})} (gives tt) (refuses 3) = e in let y : ◌≡◌ {A = ℕ} 0 1 = cc in absurd (omega arith)

  -- with the word in its place the map stands for the same cells, with the tag the cell's latest
  pub retag_stands : (a : Answer (Unit {0})) → a ≡ retag_told L cells m cell (word_of tag) → (after : Shown)
      → Accepted a (after ≡ with_word m (rank m.levels m.nodes (code_of m.levels cell)) (word_of tag))
      → Accepted a (ShowsSealed word_of L cells (set tags (count cells 0 code) tag) after)
  retag_stands (refuses n) e after h = tt
  retag_stands (gives u) e after h =
      let f : has cells code ≡ true = stood (gives u) e refl in
      let r : rank m.levels m.nodes (code_of m.levels cell) ≡ count cells 0 code =
      ap (λ l. rank l m.nodes (code_of l cell)) s.levels_are ∙ ap (λ xs. rank L xs code) s.list ∙ ranks_cells L cells here_one code (code_below L cell) f in
      record {
        phase_is = ap (λ x. x.phase) h ∙ s.phase_is;
        levels_are = ap (λ x. x.levels) h ∙ s.levels_are;
        set = s.set;
        list = ap (λ x. x.nodes) h ∙ s.list;
        words_are = ap (λ x. x.words) h ∙ ap₂ (λ n ws. set ws n (word_of tag)) r s.words_are ∙ sym (map-set word_of tags (count cells 0 code) tag);
        tag_each = length-set tags (count cells 0 code) tag ∙ s.tag_each;
      }

  -- what retag answers, wherever the cell lies
  told_all : (a : Answer (Unit {0})) → a ≡ retag_answer m cell (word_of tag) → a ≡ retag_told L cells m cell (word_of tag)
  told_all a e =
      let f = e ∙ ap (λ p. if_sealed p (refuse_if (not (cell_fits m.levels cell)) 3 (retag_at m (word_of tag) (found m.levels m.nodes (code_of m.levels cell))))) s.phase_is in
      go (cell_fits m.levels cell) refl f
    where
      go : (b : Bool) → cell_fits m.levels cell ≡ b → a ≡ refuse_if (not b) 3 (retag_at m (word_of tag) (found m.levels m.nodes (code_of m.levels cell)))
          → a ≡ retag_told L cells m cell (word_of tag)
      go true fits f = retag_tells fits a f
      go false fits f =
          f ∙ ap (λ b. refuse_if (not b) 3 (refuse_if (not (has cells code)) 5 (refuse_if (not (m.admits (set m.words (count cells 0 code) (word_of tag)))) 7 (gives tt))))
          (sym fits ∙ ap (λ l. cell_fits l cell) s.levels_are)

-- a cell that was looked up in a sealed map, by its code and what the walk found
module _ (m : Shown) (cell : Cell) (w count code : ℕ) (a : Answer (Unit {0}))
    (e : gives count ≡ if_sealed m.phase (gives m.levels)) (c : gives code ≡ refuse_if (not (cell_fits count cell)) 3 (gives (code_of count cell))) where
  made : (b : Bool) → gives code ≡ refuse_if (not b) 3 (gives (code_of count cell)) → (b ≡ true) × (code ≡ code_of count cell)
  made true h = (refl, cc)
  made false h = let z : ◌≡◌ {A = ℕ} 0 1 = cc in absurd (omega arith)

  is_sealed : (m.phase ≡ Sealed) × (count ≡ m.levels)
  is_sealed = sealed_is m.phase m.levels count e

  -- the answer by what was found is that of the call
  pub answered_by : (o : Option ℕ) → o ≡ found count m.nodes code → a ≡ retag_at m w o → a ≡ retag_answer m cell w
  answered_by o f told =
      let p = made (cell_fits count cell) c in
      told ∙ ap (retag_at m w) (f ∙ ap (found count m.nodes) p.1)
      ∙ sym (goes_on (cell_fits count cell) 3 (retag_at m w (found count m.nodes (code_of count cell))) p.0)
      ∙ ap (λ l. refuse_if (not (cell_fits l cell)) 3 (retag_at m w (found l m.nodes (code_of l cell)))) is_sealed.1
      ∙ ap (λ p. if_sealed p (refuse_if (not (cell_fits m.levels cell)) 3 (retag_at m w (found m.levels m.nodes (code_of m.levels cell))))) (sym is_sealed.0)

  -- what the store's change leaves of the map
  pub changed_by : (n : ℕ) → Some n ≡ found count m.nodes code → a ≡ retag_at m w (Some n)
      → (words : List ℕ) (admits : List ℕ → Bool) → words ≡ cond (can_change m.admits m.words n w) (set m.words n w) m.words → admits ≡ m.admits
      → Changes cell w m (with_words m words admits) a
  changed_by n f told words admits is rule =
      subst (λ x. Accepted x (with_words m words admits ≡ with_word m (rank m.levels m.nodes (code_of m.levels cell)) w)) (sym told) (go (can_change m.admits m.words n w) is)
    where
      there : (b : Bool) → Some n ≡ cond b (Some (rank count m.nodes code)) None → n ≡ rank count m.nodes code
      there true h = cc
      there false h = let z : ◌≡◌ {A = ℕ} 0 1 = cc in absurd (omega arith)

      at : n ≡ rank m.levels m.nodes (code_of m.levels cell)
      at =
          there (marks count m.nodes code) f ∙ ap (rank count m.nodes) (made (cell_fits count cell) c).1
          ∙ ap (λ l. rank l m.nodes (code_of l cell)) is_sealed.1

      go : (b : Bool) → words ≡ cond b (set m.words n w) m.words
          → Accepted (refuse_if {A = Unit {0}} (not b) 7 (gives tt)) (with_words m words admits ≡ with_word m (rank m.levels m.nodes (code_of m.levels cell)) w)
      go true h = ap₂ (with_words m) (h ∙ ap (λ k. set m.words k w) at) rule
      go false h = tt

-- so the answer by the list is the answer by the cells, and an accepted call changes what it says
pub retag_by : {K : Type 0} (word_of : K → ℕ) (m after : Shown) (cell : Cell) (tag : K) (a : Answer (Unit {0}))
    → levels_in m.phase m.levels ≡ true → length m.nodes ≤ none
    → a ≡ retag_answer m cell (word_of tag) → Changes cell (word_of tag) m after a → RetagTells word_of cell tag m after a
retag_by word_of m after cell tag a fit few e changed = λ L cells tags s.
    let one = (levels_fit_lem m.levels (sealed_fit m.phase m.levels s.phase_is fit)).0 in
    let f = told_all word_of L cells tags m cell tag s one few a e in
    (f, retag_stands word_of L cells tags m cell tag s one few a f after changed)
