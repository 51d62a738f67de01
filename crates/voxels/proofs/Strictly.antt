-- What strictest answers on a sealed map.
use Rattle.std.proofs.Common.{◌≡◌, ℕ, ◌^◌, ◌<◌, ◌≤◌, Bool, true, false, not, ◌&&◌, ◌||◌, List, map, length, Some, None, Option, sym, refl, ap, ◌∙◌, subst, ap₂, zero-mul, arith}
use native.Mathlib.Nat.{pow-le-pow_right}
use Rattle.std.proofs.lemmas.Bool.{and_parts}
use Rattle.cells.specs.Refusals.{Answer, gives, refuses, refuse_if}
use Rattle.cells.specs.Hall.{levels_fit, cell_fits}
use Rattle.cells.specs.Boxes.{not_above}
use Rattle.cells.specs.declared.hall.Cell.{Cell}
use Rattle.cells.specs.declared.boxes.CellBox.{CellBox}
use Rattle.cells.proofs.Checks.{passed, goes_on}
use Rattle.cells.proofs.Codes.{levels_fit_lem}
use Rattle.nodes.specs.Records.{none}
use Rattle.nodes.specs.declared.node.Node.{Node}
use Rattle.dag.specs.Records.{first}
use Rattle.dag.specs.Sealed.{sealed}
use Rattle.voxels.specs.declared.phase.Phase.{Phase}
use Rattle.voxels.specs.declared.phase.Phase.TheVariants.{Void, Open, Sealed}
use Rattle.voxels.specs.declared.strictest.Strictest.{Strictest}
use Rattle.voxels.specs.declared.visit.Visit.{Visit}
use Rattle.voxels.specs.Phases.{if_sealed, levels_in}
use Rattle.voxels.specs.Shown.{Shown, ShowsSealed}
use Rattle.voxels.specs.Finds.{found}
use Rattle.voxels.specs.Looks.{shows}
use Rattle.voxels.specs.Stands.{stands_at}
use Rattle.voxels.specs.Strict.{IsStrictest, StrictestOf, StrictestTells, summary, Took, tag_found, tags_from, tags_over, tags_inside, if_box, box_looks, strictest_answer}
use Rattle.voxels.specs.Sweeps.{look_at, Swept}
use Rattle.voxels.specs.Visiting.{Visits, Nothing}
use Rattle.voxels.proofs.Summing.{took_all, tags_few}
use Rattle.voxels.proofs.Sweeping.{nothing_in}
use Rattle.voxels.proofs.BoxTags.{tags_same, stands_tags}
use Rattle.voxels.proofs.Looking.{sealed_fit, sealed_is, shows_tag}
use Rattle.voxels.proofs.Order.{picked_strictest}

-- ---- over the whole hall

module _ {K : Type 0} (reading : ℕ → Option K) (stricter : K → K → Bool) (L : ℕ) (ns : List Node) (words : List ℕ) (bounds : CellBox) where
  abbrev whole : List K
  whole = tags_over L bounds (look_at reading L ns words)

  from_start : tags_from L bounds (look_at reading L ns words) (first L 0) (8 ^ L) ≡ whole
  from_start = ap (λ a. tags_from L bounds (look_at reading L ns words) a (8 ^ L)) (zero-mul (8 ^ L))

  few : L ≤ 10 → length whole < 2 ^ 64
  few high =
      let most : 8 ^ L ≤ 8 ^ 10 = pow-le-pow_right {n = 8} (omega arith) high in
      omega (arith, tags_few L bounds (look_at reading L ns words) 0 (8 ^ L), most)

  -- without a root
  pub over_nothing : Nothing L ns bounds L 0 → record { cells = 0; tag = None } ≡ summary stricter whole
  over_nothing nothing = ap (summary stricter) (sym (sym from_start ∙ nothing_in reading stricter L ns words bounds L 0 nothing))

  -- after a sweep from the root
  pub over_swept : L ≤ 10 → (visit : Visit) → visit.level ≡ L → Visits L ns bounds 0 visit → (best : Strictest K)
      → Swept reading stricter ns words bounds visit (record { cells = 0; tag = None }) best → best ≡ summary stricter whole
  over_swept high visit l v best swept =
      let took = subst (λ k. Took stricter (record { cells = 0; tag = None }) (tags_from L bounds (look_at reading L ns words) (first k 0) (8 ^ k)) best) l (swept L 0 v) in
      took_all stricter best whole (subst (λ ts. Took stricter (record { cells = 0; tag = None }) ts best) from_start took) (few high)

-- ---- the answer

-- what a box that was made tells of its corners
pub box_made : (L : ℕ) (low high : Cell) (bounds : CellBox)
    → gives bounds ≡ refuse_if (not (levels_fit L)) 1 (refuse_if (not (cell_fits L low && cell_fits L high)) 3 (refuse_if (not (not_above low high)) 8 (gives (record { low = low; high = high }))))
    → (bounds ≡ record { low = low; high = high }) × (levels_fit L ≡ true) × (cell_fits L low ≡ true) × (cell_fits L high ≡ true) × (not_above low high ≡ true)
box_made L low high bounds e =
    let p = passed (not (levels_fit L)) 1 _ bounds e in
    let q = passed (not (cell_fits L low && cell_fits L high)) 3 _ bounds p.1 in
    let r = passed (not (not_above low high)) 8 _ bounds q.1 in
    let both = and_parts (cell_fits L low) (cell_fits L high) (held (cell_fits L low && cell_fits L high) q.0) in
    (same bounds (record { low = low; high = high }) r.1, held (levels_fit L) p.0, both.0, both.1, held (not_above low high) r.0)
  where
    same : (a b : CellBox) → gives a ≡ gives b → a ≡ b
    same a b e = cc

    held : (b : Bool) → not b ≡ false → b ≡ true
    held true e = refl
    held false e = let z : ◌≡◌ {A = ℕ} 0 1 = cc in absurd (omega arith)

-- a good box gives its value
pub box_gives : {A : Type 0} (L : ℕ) (low high : Cell) (value : A) → cell_fits L low ≡ true → cell_fits L high ≡ true → not_above low high ≡ true → gives value ≡ if_box L low high value
box_gives L low high value l h n =
    sym (goes_on (cell_fits L low && cell_fits L high) 3 (refuse_if (not (not_above low high)) 8 (gives value)) (ap₂ (λ a b. a && b) l h) ∙ goes_on (not_above low high) 8 (gives value) n)

-- corners that make no box are refused, whatever would be answered of it
pub box_refuses : {A : Type 0} (L : ℕ) (low high : Cell) (value : A) (bounds : CellBox) (n : ℕ)
    → refuses n ≡ refuse_if (not (cell_fits L low && cell_fits L high)) 3 (refuse_if (not (not_above low high)) 8 (gives bounds))
    → refuses n ≡ if_box L low high value
box_refuses L low high value bounds n e = go (not (cell_fits L low && cell_fits L high)) (not (not_above low high)) e
  where
    number : (m : ℕ) → ◌≡◌ {A = Answer CellBox} (refuses n) (refuses m) → n ≡ m
    number m f = cc

    go : (a b : Bool) → refuses n ≡ refuse_if a 3 (refuse_if b 8 (gives bounds)) → refuses n ≡ refuse_if a 3 (refuse_if b 8 (gives value))
    go true b f = ap refuses (number 3 f)
    go false true f = ap refuses (number 8 f)
    go false false f = let z : ◌≡◌ {A = ℕ} 0 1 = cc in absurd (omega arith)

-- a box that was refused is refused here, where the levels were tested too
pub box_refuses_levels : {A : Type 0} (L : ℕ) (low high : Cell) (value : A) (bounds : CellBox) (n : ℕ) → levels_fit L ≡ true
    → refuses n ≡ refuse_if (not (levels_fit L)) 1 (refuse_if (not (cell_fits L low && cell_fits L high)) 3 (refuse_if (not (not_above low high)) 8 (gives bounds)))
    → refuses n ≡ if_box L low high value
box_refuses_levels L low high value bounds n fit e =
    box_refuses L low high value bounds n (e ∙ goes_on (levels_fit L) 1 _ fit)

-- on a sealed map
pub if_sealed_lem : {A : Type 0} (m : Shown) (next : Answer A) → m.phase ≡ Sealed → if_sealed m.phase next ≡ next
if_sealed_lem m next e = ap (λ p. if_sealed p next) e

-- so a sealed map answers of them
pub box_refused_by : {K : Type 0} (reading : ℕ → Option K) (stricter : K → K → Bool) (m : Shown) (low high : Cell) (count n : ℕ) (bounds : CellBox)
    → gives count ≡ if_sealed m.phase (gives m.levels)
    → refuses n ≡ refuse_if (not (cell_fits count low && cell_fits count high)) 3 (refuse_if (not (not_above low high)) 8 (gives bounds))
    → refuses n ≡ strictest_answer reading stricter m low high
box_refused_by reading stricter m low high count n bounds e told =
    let is = sealed_is m.phase m.levels count e in
    let value = summary stricter (box_looks reading m low high) in
    box_refuses count low high value bounds n told ∙ ap (λ l. if_box l low high value) is.1 ∙ sym (if_sealed_lem m _ is.0)

module _ {K : Type 0} (reading : ℕ → Option K) (word_of : K → ℕ) (back : (t : K) → reading (word_of t) ≡ Some t) where
  -- the looks find the tags of the cells in the box
  pub looks_tell : (L : ℕ) (cells : List ℕ) (tags : List K) (m : Shown) (low high : Cell) → ShowsSealed word_of L cells tags m → 1 ≤ m.levels → length m.nodes ≤ none
      → box_looks reading m low high ≡ tags_inside L (record { low = low; high = high }) cells tags
  looks_tell L cells tags m low high s one short =
      let bounds : CellBox = record { low = low; high = high } in
      let e1 = s.levels_are in
      ap (λ l. tags_over l bounds (λ code. shows reading m.words (found l m.nodes code))) e1
      ∙ ap₂ (λ ns ws. tags_over L bounds (λ code. shows reading ws (found L ns code))) s.list s.words_are
      ∙ tags_same L bounds (λ code. shows reading (map word_of tags) (found L (sealed L cells) code)) (stands_at cells tags) 0 (8 ^ L)
      (λ code a b. ap tag_found (shows_tag reading word_of back L cells tags code (subst (λ l. 1 ≤ l) e1 one) (subst (λ xs. length xs ≤ none) s.list short) (omega arith)))
      ∙ stands_tags L bounds cells tags s.set s.tag_each

-- the answer by the cells, from the answer by the looks
pub tells_box : {K : Type 0} (reading : ℕ → Option K) (word_of : K → ℕ) (stricter : K → K → Bool) (L : ℕ) (cells : List ℕ) (tags : List K) (m : Shown) (low high : Cell) (a : Answer (Strictest K))
    → ShowsSealed word_of L cells tags m → box_looks reading m low high ≡ tags_inside L (record { low = low; high = high }) cells tags
    → a ≡ strictest_answer reading stricter m low high → a ≡ if_box L low high (summary stricter (tags_inside L (record { low = low; high = high }) cells tags))
tells_box reading word_of stricter L cells tags m low high a s looks e =
    e ∙ if_sealed_lem m _ s.phase_is ∙ ap₂ (λ l ts. if_box l low high (summary stricter ts)) s.levels_are looks

-- so the answer by the looks is the answer by the cells
pub strictest_by : {K : Type 0} (reading : ℕ → Option K) (word_of : K → ℕ) (back : (t : K) → reading (word_of t) ≡ Some t) (stricter : K → K → Bool) (m : Shown) (low high : Cell) (a : Answer (Strictest K))
    → levels_in m.phase m.levels ≡ true → length m.nodes ≤ none → a ≡ strictest_answer reading stricter m low high → StrictestTells word_of stricter low high m a
strictest_by reading word_of back stricter m low high a fit short e = λ L cells tags s.
    tells_box reading word_of stricter L cells tags m low high a s
    (looks_tell reading word_of back L cells tags m low high s (levels_fit_lem m.levels (sealed_fit m.phase m.levels s.phase_is fit)).0 short) e

-- and its tag is the strictest of those looked at
pub strictest_of : {K : Type 0} (reading : ℕ → Option K) (stricter : K → K → Bool) (total : (a b : K) → (stricter a b || stricter b a) ≡ true)
    (through : (a b c : K) → stricter a b ≡ true → stricter b c ≡ true → stricter a c ≡ true) (m : Shown) (low high : Cell) (a : Answer (Strictest K))
    → a ≡ strictest_answer reading stricter m low high → IsStrictest reading stricter m low high a
strictest_of reading stricter total through m low high a e =
    subst (IsStrictest reading stricter m low high) (sym e) (go m.phase)
  where
    best : StrictestOf stricter (box_looks reading m low high) (summary stricter (box_looks reading m low high)).tag
    best = picked_strictest stricter total through (box_looks reading m low high)

    boxed : (b d : Bool) → IsStrictest reading stricter m low high (refuse_if b 3 (refuse_if d 8 (gives (summary stricter (box_looks reading m low high)))))
    boxed true d = tt
    boxed false true = tt
    boxed false false = best

    go : (p : Phase) → IsStrictest reading stricter m low high (if_sealed p (if_box m.levels low high (summary stricter (box_looks reading m low high))))
    go (Void refusal) = tt
    go Open = tt
    go Sealed = boxed (not (cell_fits m.levels low && cell_fits m.levels high)) (not (not_above low high))
