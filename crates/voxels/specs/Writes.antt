-- What write answers, and what the two buffers hold then.
use Rattle.std.specs.Prelude.{◌≡◌, ℕ, ◌*◌, Bool, ◌||◌, List, ◌++◌, length, drop, nat_lt}
use Rattle.std.specs.List.{flat_map}
use Rattle.cells.specs.Refusals.{Answer, gives, refuse_if}
use Rattle.nodes.specs.Format.{bytes_of, node_bytes, read_nodes, values_of, written}
use Rattle.voxels.specs.Phases.{if_sealed}
use Rattle.voxels.specs.Shown.{Shown, Accepted}
use Rattle.voxels.specs.Shown.{ShowsSealed}

-- whether a buffer is too short: 50 bytes for each record, and for each word the kind's width
abbrev pub too_short : Shown → ℕ → List ℕ → List ℕ → Bool
too_short m width nodes tags = nat_lt (length nodes) (node_bytes * length m.nodes) || nat_lt (length tags) (width * length m.words)

-- the answer on a sealed map: a buffer too short is refused with 14
abbrev pub write_answer : Shown → ℕ → List ℕ → List ℕ → Answer (Unit {0})
write_answer m width nodes tags = if_sealed m.phase (refuse_if (too_short m width nodes tags) 14 (gives tt))

-- the buffer of the records: one behind another from the first byte on, and then what was there
abbrev pub nodes_written : Shown → List ℕ → List ℕ
nodes_written m buffer = flat_map written m.nodes ++ drop (node_bytes * length m.nodes) buffer

-- the buffer of the tags: a word in each tag record, low byte first, and then what was there
abbrev pub words_written : Shown → ℕ → List ℕ → List ℕ
words_written m width buffer = flat_map (bytes_of width) m.words ++ drop (width * length m.words) buffer

-- the records read back from the first buffer are the node list
abbrev pub NodesBack : Shown → List ℕ → Type 0
NodesBack m buffer = read_nodes (length m.nodes) buffer ≡ m.nodes

-- on a map that stands for cells and tags, the words read back from the second are the store's
abbrev pub WordsBack : {K : Type 0} → (K → ℕ) → ℕ → Shown → List ℕ → Answer (Unit {0}) → Type 0
WordsBack {K} word_of width m buffer a =
    (L : ℕ) (cells : List ℕ) (tags : List K) → ShowsSealed word_of L cells tags m → Accepted a (values_of width (length m.words) buffer ≡ m.words)
