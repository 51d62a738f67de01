-- When a delivered map is taken, and what it then stands for.
use Rattle.std.specs.Prelude.{◌≡◌, ℕ, ◌<◌, Bool, true, false, List, [], ◌∷◌, map, length, is_some, Some, None, Option, slice_index}
use Rattle.std.specs.List.{slice_get}
use Rattle.std.specs.Option.{option_and_then}
use Rattle.cells.specs.Hall.{levels_fit}
use Rattle.nodes.specs.declared.node.Node.{Node}
use Rattle.dag.specs.Sets.{CellSet}
use Rattle.dag.specs.Sealed.{sealed}
use Rattle.dag.specs.Delivered.{Seals, marked}
use Rattle.voxels.specs.Shown.{Shown}
use Rattle.voxels.specs.Shown.{ShowsSealed}

-- every word is that of a tag
abbrev pub AllTags : {K : Type 0} → (ℕ → Option K) → List ℕ → Type 0
AllTags reading words = (n : ℕ) → n < length words → is_some (reading (slice_index words n)) ≡ true

-- whether word n is there and that of a tag
abbrev pub tag_at : {K : Type 0} → (ℕ → Option K) → List ℕ → ℕ → Bool
tag_at reading words n = is_some (option_and_then reading (slice_get words n))

-- the tags fit: there are as many words as cells, and every word is that of a tag
pub record TagsFit {K : Type 0} (reading : ℕ → Option K) (cells words : List ℕ) : Type 0 where
  pub count : length words ≡ length cells
  pub each : AllTags reading words

-- a tag in front of others, if there is one
abbrev pub with_tag : {K : Type 0} → Option K → List K → List K
with_tag None tags = tags
with_tag (Some tag) tags = tag ∷ tags

-- the tags that words read as, in their order
unfoldable pub tags_of : {K : Type 0} → (ℕ → Option K) → List ℕ → List K
tags_of reading [] = []
tags_of reading (word ∷ words) = with_tag (reading word) (tags_of reading words)

module _ {K : Type 0} (reading : ℕ → Option K) (L : ℕ) (ns : List Node) (words : List ℕ) where
  -- the first number that holds: 1 for the levels, 9 where no set of cells seals to the list, 10 where the tags do not fit
  pub data Reason (n : ℕ) : Type 0 where
    bad_levels : n ≡ 1 → levels_fit L ≡ false → Reason n
    not_sealed : n ≡ 9 → levels_fit L ≡ true → (Seals L ns → ⊥) → Reason n
    tags_unfit : n ≡ 10 → levels_fit L ≡ true → Seals L ns → (TagsFit reading (marked L ns) words → ⊥) → Reason n

  -- a delivered map is void by the first number that holds; it has none exactly if the levels are good,
  -- some set of cells seals to the list, and the tags fit
  abbrev pub Verdict : Option ℕ → Type 0
  Verdict (Some n) = Reason n
  Verdict None = (levels_fit L ≡ true) × Seals L ns × TagsFit reading (marked L ns) words

-- every list that a set of cells seals to, with the words of a tag for each cell, is taken for these cells and tags
abbrev pub TakesSealed : {K : Type 0} → (K → ℕ) → ℕ → List Node → List ℕ → Shown → Type 0
TakesSealed {K} word_of L ns words m =
    (cells : List ℕ) (tags : List K) → levels_fit L ≡ true → CellSet L cells → ns ≡ sealed L cells
    → words ≡ map word_of tags → length tags ≡ length cells → ShowsSealed word_of L cells tags m
