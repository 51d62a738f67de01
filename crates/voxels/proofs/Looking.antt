-- What look answers on a sealed map.
use Rattle.std.proofs.Common.{◌≡◌, ℕ, zero, suc, ◌^◌, ◌<◌, ◌≤◌, Bool, true, false, cond, not, List, [], ◌∷◌, map, length, Some, None, Option, sym, refl, ap, ◌∙◌, subst, arith}
use Rattle.std.specs.Option.{option_map}
use Rattle.std.specs.List.{slice_get}
use Rattle.cells.specs.Refusals.{Answer, gives, refuses, refuse_if}
use Rattle.cells.specs.Hall.{levels_fit, cell_fits, code_of}
use Rattle.cells.specs.declared.hall.Cell.{Cell}
use Rattle.cells.proofs.Checks.{passed, goes_on}
use Rattle.cells.proofs.Codes.{code_below, levels_fit_lem}
use Rattle.nodes.specs.Records.{none}
use Rattle.nodes.specs.declared.node.Node.{Node}
use Rattle.dag.specs.Sets.{has, count}
use Rattle.dag.specs.Walk.{rank}
use Rattle.dag.specs.Sealed.{sealed}
use Rattle.dag.specs.Laws.{Nameable}
use Rattle.dag.proofs.Laws.{marks_cells, ranks_cells}
use Rattle.voxels.specs.declared.phase.Phase.{Phase}
use Rattle.voxels.specs.declared.phase.Phase.TheVariants.{Void, Open, Sealed}
use Rattle.voxels.specs.declared.found.Found.{Found}
use Rattle.voxels.specs.Phases.{if_sealed, levels_in}
use Rattle.voxels.specs.Finds.{found, ranked}
use Rattle.voxels.specs.Looks.{read, shows, look_answer}
use Rattle.voxels.specs.Stands.{SealedAs, stands_at, look_told}
use Rattle.voxels.specs.Shown.{Shown}
use Rattle.voxels.specs.Tells.{looked, LookTells}

given_same : (a b : ℕ) → gives a ≡ gives b → a ≡ b
given_same a b e = cc

-- a cell of the hall is looked up by its code
pub look_sealed : {K : Type 0} (reading : ℕ → Option K) (phase : Phase) (L : ℕ) (ns : List Node) (words : List ℕ) (cell : Cell) (code : ℕ) (r : Option (Found K))
    → phase ≡ Sealed → gives code ≡ refuse_if (not (levels_fit L)) 1 (refuse_if (not (cell_fits L cell)) 3 (gives (code_of L cell)))
    → r ≡ shows reading words (found L ns code) → gives r ≡ look_answer reading phase L ns words cell
look_sealed reading phase L ns words cell code r z e f =
    let p = passed (not (levels_fit L)) 1 (refuse_if (not (cell_fits L cell)) 3 (gives (code_of L cell))) code e in
    let q = passed (not (cell_fits L cell)) 3 (gives (code_of L cell)) code p.1 in
    let s : code ≡ code_of L cell = given_same code (code_of L cell) q.1 in
    ap gives (f ∙ ap (λ c. shows reading words (found L ns c)) s)
    ∙ ap (λ b. refuse_if b 3 (gives (shows reading words (found L ns (code_of L cell))))) (sym q.0)
    ∙ ap (λ h. look_answer reading h L ns words cell) (sym z)

refused_same : {A B : Type 0} (b : Bool) (n : ℕ) (v : A) (w : B) → refuses n ≡ refuse_if b 3 (gives v) → refuses n ≡ refuse_if b 3 (gives w)
refused_same true n v w e = let f : n ≡ 3 = cc in ap refuses f
refused_same false n v w e = let z : ◌≡◌ {A = ℕ} 0 1 = cc in absurd (omega arith)

-- a cell outside is refused
pub look_outside : {K : Type 0} (reading : ℕ → Option K) (phase : Phase) (L : ℕ) (ns : List Node) (words : List ℕ) (cell : Cell) (n : ℕ)
    → phase ≡ Sealed → levels_fit L ≡ true → refuses n ≡ refuse_if (not (levels_fit L)) 1 (refuse_if (not (cell_fits L cell)) 3 (gives (code_of L cell)))
    → refuses n ≡ look_answer reading phase L ns words cell
look_outside reading phase L ns words cell n z fit e =
    refused_same (not (cell_fits L cell)) n (code_of L cell) (shows reading words (found L ns (code_of L cell))) (e ∙ goes_on (levels_fit L) 1 _ fit)
    ∙ ap (λ h. look_answer reading h L ns words cell) (sym z)

-- a sealed map has 1 to 10 levels
pub sealed_fit : (phase : Phase) (L : ℕ) → phase ≡ Sealed → levels_in phase L ≡ true → levels_fit L ≡ true
sealed_fit phase L z e = ap (λ h. levels_in h L) (sym z) ∙ e

-- where the levels of a sealed map are given, the map is sealed, and they are its levels
pub sealed_is : (phase : Phase) (L n : ℕ) → gives n ≡ if_sealed phase (gives L) → (phase ≡ Sealed) × (n ≡ L)
sealed_is Sealed L n e = (refl, given_same n L e)
sealed_is Open L n e = let z : ◌≡◌ {A = ℕ} 0 1 = cc in absurd (omega arith)
sealed_is (Void refusal) L n e = let z : ◌≡◌ {A = ℕ} 0 1 = cc in absurd (omega arith)

-- ---- a map that stands for cells and tags

nth_words : {K : Type 0} (word_of : K → ℕ) (tags : List K) (n : ℕ) → slice_get (map word_of tags) n ≡ option_map word_of (slice_get tags n)
nth_words word_of [] n = refl
nth_words word_of (t ∷ tags) zero = refl
nth_words word_of (t ∷ tags) (suc n) = nth_words word_of tags n

module _ {K : Type 0} (reading : ℕ → Option K) (word_of : K → ℕ) (back : (t : K) → reading (word_of t) ≡ Some t) where
  -- a tag's word reads as the tag
  read_tag : (rank : ℕ) (o : Option K) → read reading rank (option_map word_of o) ≡ ranked rank o
  read_tag rank None = refl
  read_tag rank (Some t) = ap (ranked rank) (back t)

  -- what the walk and the words show is what stands there
  pub shows_tag : (L : ℕ) (cells : List ℕ) (tags : List K) (code : ℕ) → 1 ≤ L → Nameable (sealed L cells) → code < 8 ^ L
      → shows reading (map word_of tags) (found L (sealed L cells) code) ≡ stands_at cells tags code
  shows_tag L cells tags code one few h =
      ap (λ b. shows reading (map word_of tags) (cond b (Some (rank L (sealed L cells) code)) None)) (marks_cells L cells one few code h)
      ∙ go (has cells code) refl
    where
      n : ℕ
      n = count cells 0 code

      go : (b : Bool) → has cells code ≡ b → shows reading (map word_of tags) (cond b (Some (rank L (sealed L cells) code)) None) ≡ cond b (ranked n (slice_get tags n)) None
      go true e =
          ap (λ r. shows reading (map word_of tags) (Some r)) (ranks_cells L cells one code h e)
          ∙ ap (read reading n) (nth_words word_of tags n) ∙ read_tag n (slice_get tags n)
      go false e = refl

  -- look tells the accepted cells and their latest tags
  pub look_tells : (L : ℕ) (cells : List ℕ) (tags : List K) (phase : Phase) (levels : ℕ) (ns : List Node) (words : List ℕ) (cell : Cell)
      → SealedAs word_of L cells tags phase levels ns words → 1 ≤ levels → length ns ≤ none
      → look_answer reading phase levels ns words cell ≡ look_told L cells tags cell
  look_tells L cells tags phase levels ns words cell s one few =
      let e1 = s.levels_are in
      ap (λ h. look_answer reading h levels ns words cell) s.phase_is
      ∙ ap (λ l. look_answer reading Sealed l ns words cell) e1
      ∙ ap (λ xs. look_answer reading Sealed L xs words cell) s.list
      ∙ ap (λ ws. look_answer reading Sealed L (sealed L cells) ws cell) s.words_are
      ∙ ap (λ o. refuse_if (not (cell_fits L cell)) 3 (gives o))
      (shows_tag L cells tags (code_of L cell) (subst (λ l. 1 ≤ l) e1 one) (subst (λ xs. length xs ≤ none) s.list few) (code_below L cell))

  -- so the answer by the list is the answer by the cells
  pub look_by : (m : Shown) (cell : Cell) (a : Answer (Option (Found K))) → levels_in m.phase m.levels ≡ true → length m.nodes ≤ none
      → a ≡ looked reading m cell → LookTells word_of cell m a
  look_by m cell a fit few e = λ L cells tags s.
      e ∙ look_tells L cells tags m.phase m.levels m.nodes m.words cell s (levels_fit_lem m.levels (sealed_fit m.phase m.levels s.phase_is fit)).0 few
