-- What strictest answers.
use Rattle.std.specs.Prelude.{◌≡◌, ℕ, zero, suc, ◌+◌, ◌^◌, ◌<◌, Bool, true, cond, not, ◌&&◌, List, [], ◌∷◌, ◌++◌, length, Some, None, Option}
use Rattle.std.specs.List.{slice_get, AllByRecursion}
use Rattle.cells.specs.Refusals.{Answer, gives, refuse_if}
use Rattle.cells.specs.Hall.{cell_fits, cell_at}
use Rattle.cells.specs.Boxes.{not_above, box_holds}
use Rattle.cells.specs.declared.hall.Cell.{Cell}
use Rattle.cells.specs.declared.boxes.CellBox.{CellBox}
use Rattle.voxels.specs.declared.found.Found.{Found}
use Rattle.voxels.specs.declared.strictest.Strictest.{Strictest}
use Rattle.voxels.specs.Phases.{if_sealed}
use Rattle.voxels.specs.Shown.{Shown, Given}
use Rattle.voxels.specs.Finds.{found}
use Rattle.voxels.specs.Looks.{shows}
use Rattle.voxels.specs.Shown.{ShowsSealed}

-- ---- the strictest of some tags

module _ {K : Type 0} (stricter : K → K → Bool) where
  -- the strictest of some tags: absent where there are none, and otherwise one of them that is at least as strict as each
  abbrev pub StrictestOf : List K → Option K → Type 0
  StrictestOf tags None = tags ≡ []
  StrictestOf tags (Some tag) = ((n : ℕ) × (slice_get tags n ≡ Some tag)) × AllByRecursion (λ other. stricter tag other ≡ true) tags

  -- the stricter one of the strictest so far and one more tag
  abbrev pub pick : Option K → K → Option K
  pick None tag = Some tag
  pick (Some strict) tag = Some (cond (stricter strict tag) strict tag)

  -- the strictest of a list, picked tag by tag
  abbrev pub picked : Option K → List K → Option K
  picked strict [] = strict
  picked strict (tag ∷ tags) = picked (pick strict tag) tags

  -- how many tags there are, and the strictest
  abbrev pub summary : List K → Strictest K
  summary tags = record { cells = length tags; tag = picked None tags }

  -- a summary that has taken more tags; the count is right as long as it fits 64 bits
  pub record Took (before : Strictest K) (tags : List K) (after : Strictest K) : Type 0 where
    pub cells : before.cells + length tags < 2 ^ 64 → after.cells ≡ before.cells + length tags
    pub tag : after.tag ≡ picked before.tag tags

-- ---- the tags in a box

module _ {K : Type 0} where
  -- what a look finds: no tag, or one
  abbrev pub tag_found : Option (Found K) → List K
  tag_found None = []
  tag_found (Some at) = at.tag ∷ []

  module _ (L : ℕ) (bounds : CellBox) (look : ℕ → Option (Found K)) where
    -- the tag at a code, if the code's cell lies in the box
    abbrev pub boxed : ℕ → List K
    boxed code = cond (box_holds bounds (cell_at L code)) (tag_found (look code)) []

    -- the tags at `many` codes from `from` on, looked at one by one
    unfoldable pub tags_from : ℕ → ℕ → List K
    tags_from from zero = []
    tags_from from (suc many) = boxed from ++ tags_from (suc from) many

    -- the tags of all cells of the box
    abbrev pub tags_over : List K
    tags_over = tags_from 0 (8 ^ L)

  -- of cells in code order, with a tag for each: the tags of those that lie in the box
  abbrev pub tags_inside : ℕ → CellBox → List ℕ → List K → List K
  tags_inside L bounds [] tags = []
  tags_inside L bounds (code ∷ cells) [] = []
  tags_inside L bounds (code ∷ cells) (tag ∷ tags) = cond (box_holds bounds (cell_at L code)) (tag ∷ tags_inside L bounds cells tags) (tags_inside L bounds cells tags)

-- ---- the answer

-- the corners of a box, checked: a corner outside is refused with 3, crossed corners with 8
abbrev pub if_box : {A : Type 0} → ℕ → Cell → Cell → A → Answer A
if_box L low high value = refuse_if (not (cell_fits L low && cell_fits L high)) 3 (refuse_if (not (not_above low high)) 8 (gives value))

-- the tags that looks at the box's cells find
abbrev pub box_looks : {K : Type 0} → (ℕ → Option K) → Shown → Cell → Cell → List K
box_looks reading m low high = tags_over m.levels (record { low = low; high = high }) (λ code. shows reading m.words (found m.levels m.nodes code))

module _ {K : Type 0} (reading : ℕ → Option K) (stricter : K → K → Bool) where
  -- the answer by the looks: how many tags they find, and the strictest
  abbrev pub strictest_answer : Shown → Cell → Cell → Answer (Strictest K)
  strictest_answer m low high = if_sealed m.phase (if_box m.levels low high (summary stricter (box_looks reading m low high)))

  -- and the tag of the answer is the strictest of those that were looked at
  abbrev pub IsStrictest : Shown → Cell → Cell → Answer (Strictest K) → Type 0
  IsStrictest m low high a = Given a (λ best. StrictestOf stricter (box_looks reading m low high) best.tag)

-- by the accepted cells and their latest tags
abbrev pub StrictestTells : {K : Type 0} → (K → ℕ) → (K → K → Bool) → Cell → Cell → Shown → Answer (Strictest K) → Type 0
StrictestTells {K} word_of stricter low high m a =
    (L : ℕ) (cells : List ℕ) (tags : List K) → ShowsSealed word_of L cells tags m
    → a ≡ if_box L low high (summary stricter (tags_inside L (record { low = low; high = high }) cells tags))
