-- A delivered map: its words as tags, and what it stands for.
use Rattle.std.proofs.Common.{◌≡◌, ℕ, zero, suc, ◌+◌, add-zero, zero-add, ◌<◌, ◌≤◌, Bool, true, false, leb, List, [], ◌∷◌, map, length, get_or, is_some, Some, None, Option, sym, refl, ap, ◌∙◌, subst, ap₂, arith}
use Rattle.std.specs.List.{slice_get, list_all, range_with_len}
use Rattle.std.specs.Option.{option_and_then}
use Rattle.std.proofs.lemmas.List.{length-map}
use Rattle.std.proofs.lemmas.Option.{slice_get-get_or}
use Rattle.std.proofs.lemmas.Bool.{and_from, and_parts, leb-true, both_ways}
use Rattle.cells.specs.Hall.{levels_fit}
use Rattle.nodes.specs.declared.node.Node.{Node}
use Rattle.dag.specs.Sets.{CellSet}
use Rattle.dag.specs.Sealed.{sealed}
use Rattle.dag.specs.Laws.{Nameable}
use Rattle.dag.specs.Delivered.{Seals, marked}
use Rattle.dag.proofs.Marked.{marked_set, seals_marked}
use Rattle.voxels.specs.declared.phase.Phase.{Phase}
use Rattle.voxels.specs.declared.phase.Phase.TheVariants.{Sealed}
use Rattle.voxels.specs.Stands.{SealedAs}
use Rattle.voxels.specs.Adopts.{tag_at, AllTags, TagsFit, Verdict, tags_of, with_tag, bad_levels, not_sealed, tags_unfit}

-- ---- a store's words, one by one

pub word_at : (words : List ℕ) (n w : ℕ) → n < length words → slice_get words n ≡ Some w → get_or words n 0 ≡ w
word_at words n w h e = let f = slice_get-get_or words n 0 h in cc

pub word_there : (words : List ℕ) (n : ℕ) → n < length words → slice_get words n ≡ None → ⊥
word_there words n h e = let f = slice_get-get_or words n 0 h in let z : ◌≡◌ {A = ℕ} 0 1 = cc in omega arith

-- a test of each number of a range
each_below : (test : ℕ → Bool) (a n : ℕ) → list_all test (range_with_len a n) ≡ true → (k : ℕ) → k < n → test (a + k) ≡ true
each_below test a zero e k h = absurd (omega arith)
each_below test a (suc n) e zero h = ap test (add-zero a) ∙ (and_parts _ _ e).0
each_below test a (suc n) e (suc k) h =
    let same : a + suc k ≡ a + 1 + k = omega arith in
    ap test same ∙ each_below test (a + 1) n (and_parts _ _ e).1 k (omega arith)

all_below : (test : ℕ → Bool) (a n : ℕ) → ((k : ℕ) → k < n → test (a + k) ≡ true) → list_all test (range_with_len a n) ≡ true
all_below test a zero h = refl
all_below test a (suc n) h =
    and_from _ _ (ap test (sym (add-zero a)) ∙ h 0 (omega arith))
    (all_below test (a + 1) n (λ k l. let same : a + 1 + k ≡ a + suc k = omega arith in ap test same ∙ h (suc k) (omega arith)))

-- a word that is there
tag_here : {K : Type 0} (reading : ℕ → Option K) (words : List ℕ) (n : ℕ) → n < length words → tag_at reading words n ≡ is_some (reading (get_or words n 0))
tag_here reading words n h = ap (λ o. is_some (option_and_then reading o)) (slice_get-get_or words n 0 h)

-- so the test of all words
pub tags_tested : {K : Type 0} (reading : ℕ → Option K) (words : List ℕ) (count : ℕ) (b : Bool) → count ≡ length words
    → b ≡ list_all (tag_at reading words) (range_with_len 0 count) → (b ≡ true → AllTags reading words) × (AllTags reading words → b ≡ true)
tags_tested reading words count b long e = (
  (λ t n h. sym (tag_here reading words n h) ∙ ap (tag_at reading words) (sym (zero-add n)) ∙ each_below (tag_at reading words) 0 count (sym e ∙ t) n (omega arith)),
  (λ all. e ∙ all_below (tag_at reading words) 0 count
      (λ k h. ap (tag_at reading words) (zero-add k) ∙ tag_here reading words k (omega arith) ∙ all k (omega arith))),
)

-- ---- words and tags

module _ {K : Type 0} (word_of : K → ℕ) (reading : ℕ → Option K) where
  -- words that are those of tags are the words of the tags that they read as
  words_back : ((w : ℕ) (t : K) → reading w ≡ Some t → word_of t ≡ w) → (words : List ℕ) → AllTags reading words
      → (words ≡ map word_of (tags_of reading words)) × (length (tags_of reading words) ≡ length words)
  unfolding tags_of
  words_back only [] h = (refl, refl)
  words_back only (w ∷ words) h =
      let rest = words_back only words (λ n l. h (suc n) (omega arith)) in
      elim (reading w) as (λ o. reading w ≡ o → is_some o ≡ true → (w ∷ words ≡ map word_of (with_tag o (tags_of reading words))) × (length (with_tag o (tags_of reading words)) ≡ length (w ∷ words))) [
        | None ↦ (λ e f. absurd (both_ways false refl f))
        | Some t ↦ (λ e f. (ap₂ (λ x xs. x ∷ xs) (sym (only w t e)) rest.0, omega (arith, rest.1)))
      ] refl (h 0 (omega arith))

  module _ (back : (t : K) → reading (word_of t) ≡ Some t) where
    -- the words of tags are those of tags
    words_tags : (tags : List K) → AllTags reading (map word_of tags)
    words_tags [] n l = absurd (omega arith)
    words_tags (t ∷ tags) zero l = ap is_some (back t)
    words_tags (t ∷ tags) (suc n) l = words_tags tags n (omega arith)

  -- ---- what the verdict says

  module _ (L : ℕ) (ns : List Node) (words : List ℕ) (few : Nameable ns) where
    one_level : levels_fit L ≡ true → 1 ≤ L
    one_level fit = leb-true 1 L (and_parts (leb 1 L) (leb L 10) fit).0

    -- a map that is taken stands for the cells that its list marks
    pub stands_marked : ((w : ℕ) (t : K) → reading w ≡ Some t → word_of t ≡ w) → (phase : Phase) (levels : ℕ) (nodes : List Node) (stored : List ℕ) → phase ≡ Sealed → levels ≡ L → nodes ≡ ns → stored ≡ words
        → Verdict reading L ns words None → SealedAs word_of L (marked L ns) (tags_of reading words) phase levels nodes stored
    stands_marked only _ _ _ _ phase levels list word-list taken =
        let s = taken.1 in
        let e = seals_marked L ns s.0 (one_level taken.0) few s.1 s.2 in
        let b = words_back only words taken.2.each in
        record {
          phase_is = phase;
          levels_are = levels;
          set = marked_set L ns;
          list = list ∙ s.2 ∙ ap (sealed L) e;
          words_are = word-list ∙ b.0;
          tag_each = b.1 ∙ taken.2.count;
        }

    -- the words of a tag for each cell fit
    pub fits_sealed : ((t : K) → reading (word_of t) ≡ Some t) → (cells : List ℕ) (tags : List K) → levels_fit L ≡ true → CellSet L cells → ns ≡ sealed L cells
        → words ≡ map word_of tags → length tags ≡ length cells → TagsFit reading (marked L ns) words
    fits_sealed back cells tags fit set list is long =
        let e = seals_marked L ns cells (one_level fit) few set list in
        record {
          count = ap length is ∙ length-map tags word_of ∙ long ∙ ap length e;
          each = subst (AllTags reading) (sym is) (words_tags back tags);
        }

    -- where no number holds, none is given
    pub no_reason : (o : Option ℕ) → Verdict reading L ns words o → levels_fit L ≡ true → Seals L ns → TagsFit reading (marked L ns) words → o ≡ None
    no_reason None v fit seals tags = refl
    no_reason (Some n) (bad_levels e bad) fit seals tags = absurd (both_ways (levels_fit L) bad fit)
    no_reason (Some n) (not_sealed e good bad) fit seals tags = absurd (bad seals)
    no_reason (Some n) (tags_unfit e good s bad) fit seals tags = absurd (bad tags)
