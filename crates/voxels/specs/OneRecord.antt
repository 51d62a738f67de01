-- A worked case of place and seal: 2 levels, and a pool with room for one record.
use Rattle.std.specs.Prelude.{◌≡◌, ℕ, true, List, [], ◌∷◌}
use Rattle.cells.specs.Refusals.{gives, refuses}
use Rattle.voxels.specs.Shown.{Shown}
use Rattle.voxels.specs.Places.{place_told, seal_told}

-- what a map answers from call to call, with any word and a store that takes it
pub record OneRecordAnswers (m : Shown) (word : ℕ) : Type 0 where
  -- places 0, 8 and 17 are accepted: cells 0 and 8 have one record between them
  pub place_0 : place_told 2 [] m.capacity m.admits m.words 0 word ≡ gives tt
  pub place_8 : place_told 2 (0 ∷ []) m.capacity m.admits m.words 8 word ≡ gives tt
  pub place_17 : place_told 2 (0 ∷ 8 ∷ []) m.capacity m.admits m.words 17 word ≡ gives tt
  -- 63 would need the record of cell 17's sub-cube too, and is refused with 6
  pub place_63 : place_told 2 (0 ∷ 8 ∷ 17 ∷ []) m.capacity m.admits m.words 63 word ≡ refuses 6
  -- 18 lies in that sub-cube, and is accepted
  pub place_18 : place_told 2 (0 ∷ 8 ∷ 17 ∷ []) m.capacity m.admits m.words 18 word ≡ gives tt
  -- seal is refused with 6
  pub seal : seal_told 2 (0 ∷ 8 ∷ 17 ∷ 18 ∷ []) m.capacity ≡ refuses 6

abbrev pub OneRecord : Type 0
OneRecord = (m : Shown) (word : ℕ) → m.capacity ≡ 1 → ((words : List ℕ) → m.admits words ≡ true) → OneRecordAnswers m word
