-- What is checked step by step, where the records before are known to pass.
use Rattle.std.specs.Prelude.{◌≡◌, ℕ, zero, suc, ◌<◌, true, false, cond, List, length}
use Rattle.nodes.specs.Records.{none}
use Rattle.nodes.specs.declared.node.Node.{Node}
use Rattle.dag.specs.Rules.{node_at, link_of, offset_of, UpperLinks}
use Rattle.dag.specs.Sizes.{has_child, size_before}
use Rattle.dag.specs.Judged.{NodePasses}

-- the link to a child of a record n of level k + 1 is right: a cell has none, and any other child is an earlier record of level k
abbrev pub LinkRight : List Node → ℕ → ℕ → ℕ → Type 0
LinkRight ns zero n m = m ≡ none
LinkRight ns (suc k) n m = (m < n) × ((node_at ns m).level ≡ suc k)

-- link and offset i of record n of level k + 1 are right
pub record ChildRight (ns : List Node) (k n i : ℕ) : Type 0 where
  pub there : has_child (node_at ns n) i ≡ true → LinkRight ns k n (link_of (node_at ns n) i)
  pub absent : has_child (node_at ns n) i ≡ false → link_of (node_at ns n) i ≡ none
  pub offset : offset_of (node_at ns n) i ≡ cond (has_child (node_at ns n) i) (size_before ns k n i) 0

-- every record of a level above 1 links to earlier records of the level below
abbrev pub LinksDown : List Node → Type 0
LinksDown ns = (n : ℕ) → n < length ns → UpperLinks ns n

-- record n is in the list and has level k; level 0 has no records
abbrev pub Here : List Node → ℕ → ℕ → Type 0
Here ns zero n = Unit {0}
Here ns (suc k) n = (n < length ns) × ((node_at ns n).level ≡ suc k)

-- the records below n pass
abbrev pub PassTo : ℕ → List Node → ℕ → Type 0
PassTo L ns n = (j : ℕ) → j < n → NodePasses L ns j

-- the cells under record n of level k can be counted by its offsets: it and all before it pass; on level 0 there is nothing to ask
abbrev pub Countable : List Node → ℕ → ℕ → Type 0
Countable ns zero n = Unit {0}
Countable ns (suc k) n = ((node_at ns n).level ≡ suc k) × (n < length ns) × ((L : ℕ) × PassTo L ns (suc n))
