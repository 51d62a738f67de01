-- What a sweep through a sub-cube has taken.
use Rattle.std.specs.Prelude.{ℕ, ◌^◌, Bool, List, Some, Option}
use Rattle.cells.specs.declared.boxes.CellBox.{CellBox}
use Rattle.nodes.specs.declared.node.Node.{Node}
use Rattle.dag.specs.Records.{first}
use Rattle.voxels.specs.declared.visit.Visit.{Visit}
use Rattle.voxels.specs.declared.strictest.Strictest.{Strictest}
use Rattle.voxels.specs.declared.found.Found.{Found}
use Rattle.voxels.specs.Finds.{found}
use Rattle.voxels.specs.Looks.{shows}
use Rattle.voxels.specs.Strict.{Took, tag_found, tags_from}
use Rattle.voxels.specs.Visiting.{Visits}

module _ {K : Type 0} (reading : ℕ → Option K) where
  -- the tag of the word with a rank, if there is one
  abbrev pub tagged_at : List ℕ → ℕ → List K
  tagged_at words rank = tag_found (shows reading words (Some rank))

  -- what a look at a code shows
  abbrev pub look_at : ℕ → List Node → List ℕ → ℕ → Option (Found K)
  look_at L ns words code = shows reading words (found L ns code)

  -- a sweep has taken the tags at all codes of the sub-cube that lie in the box
  abbrev pub Swept : (K → K → Bool) → List Node → List ℕ → CellBox → Visit → Strictest K → Strictest K → Type 0
  Swept stricter ns words bounds visit before after =
      (L s : ℕ) → Visits L ns bounds s visit
      → Took stricter before (tags_from L bounds (look_at L ns words) (first visit.level s) (8 ^ visit.level)) after
