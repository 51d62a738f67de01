-- What look answers.
use Rattle.std.specs.Prelude.{ℕ, not, List, Some, None, Option}
use Rattle.std.specs.List.{slice_get}
use Rattle.cells.specs.Refusals.{Answer, gives, refuses, refuse_if, number_of}
use Rattle.cells.specs.Hall.{cell_fits, code_of}
use Rattle.cells.specs.declared.hall.Cell.{Cell}
use Rattle.nodes.specs.declared.node.Node.{Node}
use Rattle.voxels.specs.declared.phase.Phase.{Phase}
use Rattle.voxels.specs.declared.phase.Phase.TheVariants.{Void, Open, Sealed}
use Rattle.voxels.specs.declared.found.Found.{Found}
use Rattle.voxels.specs.Finds.{found, ranked}

module _ {K : Type 0} (reading : ℕ → Option K) where
  -- the word with a rank, read as a tag
  abbrev pub read : ℕ → Option ℕ → Option (Found K)
  read rank None = None
  read rank (Some word) = ranked rank (reading word)

  -- what a rank shows: free, or the rank and the tag
  abbrev pub shows : List ℕ → Option ℕ → Option (Found K)
  shows words None = None
  shows words (Some rank) = read rank (slice_get words rank)

  -- the answer by the phase: a void map refuses with its number, an open one with 2, and then a cell outside is refused with 3
  abbrev pub look_answer : Phase → ℕ → List Node → List ℕ → Cell → Answer (Option (Found K))
  look_answer (Void refusal) L ns words cell = refuses (number_of refusal)
  look_answer Open L ns words cell = refuses 2
  look_answer Sealed L ns words cell = refuse_if (not (cell_fits L cell)) 3 (gives (shows words (found L ns (code_of L cell))))
