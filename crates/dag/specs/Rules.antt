-- The rules that a node list keeps.
use Rattle.std.specs.Prelude.{◌≡◌, ℕ, ◌+◌, ◌-◌, ◌<◌, ◌≤◌, List, length, slice_index_or}
use Rattle.cells.specs.Hall.{bit}
use Rattle.nodes.specs.Records.{blank, none, children, of_child}
use Rattle.nodes.specs.declared.node.Node.{Node}

-- record n of a list
abbrev pub node_at : List Node → ℕ → Node
node_at ns n = slice_index_or ns n blank

-- link i and offset i of a record
abbrev pub link_of : Node → ℕ → ℕ
link_of node i = of_child i node.links

abbrev pub offset_of : Node → ℕ → ℕ
offset_of node i = of_child i node.offsets

-- R1: the level is 1 to L and the mask is not 0
abbrev pub LevelAndMask : ℕ → Node → Type 0
LevelAndMask L node = (1 ≤ node.level) × (node.level ≤ L) × (0 < node.mask)

-- R2: on level 1 every link is none
abbrev pub BottomLinks : Node → Type 0
BottomLinks node = node.level ≡ 1 → (i : ℕ) → i < children → link_of node i ≡ none

-- R3: on a level above 1, link i is none exactly if mask bit i is 0, and otherwise the number of an earlier record of the level below
abbrev pub UpperLinks : List Node → ℕ → Type 0
UpperLinks ns n = 1 < (node_at ns n).level → (i : ℕ) → i < children →
    (bit i (node_at ns n).mask ≡ 0 → link_of (node_at ns n) i ≡ none)
    × (link_of (node_at ns n) i ≡ none → bit i (node_at ns n).mask ≡ 0)
    × (bit i (node_at ns n).mask ≡ 1 → (link_of (node_at ns n) i < n) × ((node_at ns (link_of (node_at ns n) i)).level + 1 ≡ (node_at ns n).level))

-- R4: a list that is not empty ends in a record of level L, the root
abbrev pub Root : ℕ → List Node → Type 0
Root L ns = 0 < length ns → (node_at ns (length ns - 1)).level ≡ L

-- the node rules of a list with L levels
pub record NodeRules (L : ℕ) (ns : List Node) : Type 0 where
  pub r1 : (n : ℕ) → n < length ns → LevelAndMask L (node_at ns n)
  pub r2 : (n : ℕ) → n < length ns → BottomLinks (node_at ns n)
  pub r3 : (n : ℕ) → n < length ns → UpperLinks ns n
  pub r4 : Root L ns
