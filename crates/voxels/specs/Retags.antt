-- What retag answers, and what it changes.
use Rattle.std.specs.Prelude.{◌≡◌, ℕ, not, List, Some, None, Option, slice_set}
use Rattle.cells.specs.Refusals.{Answer, gives, refuses, refuse_if}
use Rattle.cells.specs.Hall.{cell_fits, code_of}
use Rattle.cells.specs.declared.hall.Cell.{Cell}
use Rattle.tags.specs.Stores.{can_change}
use Rattle.dag.specs.Sets.{has, count}
use Rattle.dag.specs.Walk.{rank}
use Rattle.voxels.specs.Phases.{if_sealed}
use Rattle.voxels.specs.Shown.{Shown, Accepted}
use Rattle.voxels.specs.Finds.{found}
use Rattle.voxels.specs.Shown.{ShowsSealed}

-- the answer where the walk finds a rank, or nothing: 5 where nothing stands, 7 where the store does not take the changed list
abbrev pub retag_at : Shown → ℕ → Option ℕ → Answer (Unit {0})
retag_at m word None = refuses 5
retag_at m word (Some n) = refuse_if (not (can_change m.admits m.words n word)) 7 (gives tt)

-- the answer on a sealed map: before that, 3 for a cell outside
abbrev pub retag_answer : Shown → Cell → ℕ → Answer (Unit {0})
retag_answer m cell word = if_sealed m.phase (refuse_if (not (cell_fits m.levels cell)) 3 (retag_at m word (found m.levels m.nodes (code_of m.levels cell))))

-- a map with another word in the place of word n, and all else as it was
abbrev pub with_word : Shown → ℕ → ℕ → Shown
with_word m n word = record {
  phase = m.phase;
  levels = m.levels;
  last = m.last;
  rows = m.rows;
  nodes = m.nodes;
  capacity = m.capacity;
  memory = m.memory;
  behind = m.behind;
  words = slice_set m.words n word;
  admits = m.admits;
}

-- an accepted retag changes the word with the cell's rank, and nothing else
abbrev pub Changes : Cell → ℕ → Shown → Shown → Answer (Unit {0}) → Type 0
Changes cell word before after a = Accepted a (after ≡ with_word before (rank before.levels before.nodes (code_of before.levels cell)) word)

-- what retag answers on a map that stands for cells and tags
abbrev pub retag_told : ℕ → List ℕ → Shown → Cell → ℕ → Answer (Unit {0})
retag_told L cells m cell word =
    refuse_if (not (cell_fits L cell)) 3
    (refuse_if (not (has cells (code_of L cell))) 5
    (refuse_if (not (m.admits (slice_set m.words (count cells 0 (code_of L cell)) word))) 7 (gives tt)))

-- it answers just that; accepted, the map stands for the same cells, with the tag the cell's latest
abbrev pub RetagTells : {K : Type 0} → (K → ℕ) → Cell → K → Shown → Shown → Answer (Unit {0}) → Type 0
RetagTells {K} word_of cell tag before after a =
    (L : ℕ) (cells : List ℕ) (tags : List K) → ShowsSealed word_of L cells tags before
    → (a ≡ retag_told L cells before cell (word_of tag))
    × Accepted a (ShowsSealed word_of L cells (slice_set tags (count cells 0 (code_of L cell)) tag) after)
