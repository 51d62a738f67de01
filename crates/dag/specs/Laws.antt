-- What makes the sealed list right. The cells may be any list of codes: only what they hold matters.
use Rattle.std.specs.Prelude.{◌≡◌, ℕ, ◌^◌, ◌<◌, ◌≤◌, true, List, [], length}
use Rattle.nodes.specs.Records.{none}
use Rattle.nodes.specs.declared.node.Node.{Node}
use Rattle.dag.specs.Sets.{has, count}
use Rattle.dag.specs.Rules.{node_at, NodeRules}
use Rattle.dag.specs.Walk.{MarksExactly, rank}
use Rattle.dag.specs.Sealed.{Begins, below, sealed}

-- a list that links can name: no record has the number of the link that means none
abbrev pub Nameable : List Node → Type 0
Nameable ns = length ns ≤ none

-- the sealed list keeps the node rules
abbrev pub KeepsRules : Type 0
KeepsRules = (L : ℕ) (cells : List ℕ) → 1 ≤ L → Nameable (sealed L cells) → NodeRules L (sealed L cells)

-- no record stands in it twice
abbrev pub NoneTwice : Type 0
NoneTwice = (L : ℕ) (cells : List ℕ) (m n : ℕ) → m < length (sealed L cells) → n < length (sealed L cells)
    → node_at (sealed L cells) m ≡ node_at (sealed L cells) n → m ≡ n

-- it marks exactly the cells
abbrev pub MarksCells : Type 0
MarksCells = (L : ℕ) (cells : List ℕ) → 1 ≤ L → Nameable (sealed L cells) → MarksExactly L (sealed L cells) cells

-- the offsets on each cell's path add up to the number of cells with smaller codes
abbrev pub RanksCells : Type 0
RanksCells = (L : ℕ) (cells : List ℕ) → 1 ≤ L → (code : ℕ) → code < 8 ^ L → has cells code ≡ true → rank L (sealed L cells) code ≡ count cells 0 code

-- the list of the sub-cubes below a code is a beginning of that below any higher code
abbrev pub Grows : Type 0
Grows = (L : ℕ) (cells : List ℕ) (m n : ℕ) → m ≤ n → Begins (below L cells m) (below L cells n)

-- below 8 ^ L it is the sealed list
abbrev pub Ends : Type 0
Ends = (L : ℕ) (cells : List ℕ) → below L cells (8 ^ L) ≡ sealed L cells

-- two lists of cells are the same below a code: every interval of codes up to it holds as many of the one as of the other
abbrev pub SameBelow : List ℕ → List ℕ → ℕ → Type 0
SameBelow cells others m = (a b : ℕ) → b ≤ m → count cells a b ≡ count others a b

-- the list below a code depends on no cell at or above it
abbrev pub Depends : Type 0
Depends = (L : ℕ) (cells others : List ℕ) (m : ℕ) → SameBelow cells others m → below L cells m ≡ below L others m

-- no cells have no records
abbrev pub NoneFromNone : Type 0
NoneFromNone = (L : ℕ) → sealed L [] ≡ []
