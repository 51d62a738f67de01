-- When a delivered list passes: record by record, without going through its cells.
use Rattle.std.specs.Prelude.{◌≡◌, ℕ, ◌<◌, ◌≤◌, cond, List, length, nat_lt}
use Rattle.nodes.specs.Records.{children}
use Rattle.nodes.specs.declared.node.Node.{Node}
use Rattle.dag.specs.Rules.{node_at, LevelAndMask, BottomLinks, UpperLinks, Root}
use Rattle.dag.specs.Walk.{root}
use Rattle.dag.specs.Records.{lowest}
use Rattle.dag.specs.Laws.{Nameable}
use Rattle.dag.specs.Delivered.{Seals, marked}
use Rattle.dag.specs.Sizes.{size, RightOffsets}
use Rattle.dag.specs.Meets.{meet}

-- a record of eight children: eight links, eight offsets, and no bit of the mask past the eighth
pub record Shaped (a : Node) : Type 0 where
  pub mask_fits : a.mask < 256
  pub eight_links : length a.links ≡ children
  pub eight_offsets : length a.offsets ≡ children

-- record n passes: it keeps the node rules, its offsets are right, and no lower record equals it
pub record NodePasses (L : ℕ) (ns : List Node) (n : ℕ) : Type 0 where
  pub shape : Shaped (node_at ns n)
  pub r1 : LevelAndMask L (node_at ns n)
  pub r2 : BottomLinks (node_at ns n)
  pub r3 : UpperLinks ns n
  pub offsets : RightOffsets ns n
  pub alone : lowest ns (node_at ns n) ≡ n

-- a list passes: each record does, the last one is a root, and from there the records are met in the order of their numbers, and all of them
pub record Passes (L : ℕ) (ns : List Node) : Type 0 where
  pub each : (n : ℕ) → n < length ns → NodePasses L ns n
  pub r4 : Root L ns
  pub order : 0 < length ns → meet ns L (root ns) 0 ≡ length ns

-- the number of cells under the root
unfoldable pub cells_under : ℕ → List Node → ℕ
cells_under L ns = cond (nat_lt 0 (length ns)) (size ns L (root ns)) 0

-- a list that passes is the sealed list of a set of cells, and there are as many as under its root
abbrev pub PassesSeals : Type 0
PassesSeals = (L : ℕ) (ns : List Node) → 1 ≤ L → Nameable ns → Passes L ns → Seals L ns × (length (marked L ns) ≡ cells_under L ns)

-- every sealed list passes
abbrev pub SealsPasses : Type 0
SealsPasses = (L : ℕ) (ns : List Node) → 1 ≤ L → Nameable ns → Seals L ns → Passes L ns
