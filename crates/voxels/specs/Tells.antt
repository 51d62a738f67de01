-- What place, seal and look tell of the cells that a map stands for.
use Rattle.std.specs.Prelude.{◌≡◌, ℕ, List, [], ◌∷◌, ◌++◌, Option}
use Rattle.cells.specs.Refusals.{Answer}
use Rattle.cells.specs.declared.hall.Cell.{Cell}
use Rattle.dag.specs.Sealed.{below}
use Rattle.voxels.specs.declared.found.Found.{Found}
use Rattle.voxels.specs.Looks.{look_answer}
use Rattle.voxels.specs.Places.{Early, place_early, place_told, seal_early, seal_told}
use Rattle.voxels.specs.Shown.{Shown, Accepted, ShowsOpen, ShowsSealed}
use Rattle.voxels.specs.Stands.{look_told}

-- what the plain state alone refuses comes first
abbrev pub PlaceEarly : ℕ → Shown → Answer (Unit {0}) → Type 0
PlaceEarly code m a = Early (place_early m.phase m.levels m.last code) a

abbrev pub SealEarly : Shown → Answer (Unit {0}) → Type 0
SealEarly m a = Early (seal_early m.phase) a

-- place answers just what the accepted cells and tags say; accepted, the map stands for one cell more, with its tag,
-- and its list is that of the sub-cubes below the code
abbrev pub PlaceTells : {K : Type 0} → (K → ℕ) → ℕ → K → Shown → Shown → Answer (Unit {0}) → Type 0
PlaceTells {K} word_of code tag before after a =
    (L : ℕ) (cells : List ℕ) (tags : List K) → ShowsOpen word_of L cells tags before
    → (a ≡ place_told L cells before.capacity before.admits before.words code (word_of tag))
    × Accepted a (ShowsOpen word_of L (cells ++ code ∷ []) (tags ++ tag ∷ []) after × (after.nodes ≡ below L cells code))

-- and so seal; accepted, the map is sealed for the same cells and tags
abbrev pub SealTells : {K : Type 0} → (K → ℕ) → Shown → Shown → Answer (Unit {0}) → Type 0
SealTells {K} word_of before after a =
    (L : ℕ) (cells : List ℕ) (tags : List K) → ShowsOpen word_of L cells tags before
    → (a ≡ seal_told L cells before.capacity) × Accepted a (ShowsSealed word_of L cells tags after)

-- what look answers by the list and the words
abbrev pub looked : {K : Type 0} → (ℕ → Option K) → Shown → Cell → Answer (Option (Found K))
looked reading m cell = look_answer reading m.phase m.levels m.nodes m.words cell

-- and by the accepted cells and their latest tags
abbrev pub LookTells : {K : Type 0} → (K → ℕ) → Cell → Shown → Answer (Option (Found K)) → Type 0
LookTells {K} word_of cell m a =
    (L : ℕ) (cells : List ℕ) (tags : List K) → ShowsSealed word_of L cells tags m → a ≡ look_told L cells tags cell
