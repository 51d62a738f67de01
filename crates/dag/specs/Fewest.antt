-- No list for the same cells is shorter than the sealed list, and the sealed list tells which cells they are.
use Rattle.std.specs.Prelude.{◌≡◌, ℕ, ◌≤◌, List, length}
use Rattle.nodes.specs.declared.node.Node.{Node}
use Rattle.dag.specs.Sets.{CellSet}
use Rattle.dag.specs.Rules.{NodeRules}
use Rattle.dag.specs.Walk.{MarksExactly}
use Rattle.dag.specs.Sealed.{sealed}

-- every list that keeps the rules and marks exactly the cells has at least as many records as the sealed list
abbrev pub FewestRecords : Type 0
FewestRecords = (L : ℕ) (cells : List ℕ) (ns : List Node) →
    CellSet L cells → NodeRules L ns → MarksExactly L ns cells → length (sealed L cells) ≤ length ns

-- two sets of cells of a hall have equal sealed lists exactly if they are the same set
abbrev pub OneListPerSet : Type 0
OneListPerSet = (L : ℕ) (cells others : List ℕ) → 1 ≤ L → CellSet L cells → CellSet L others →
    (sealed L cells ≡ sealed L others → cells ≡ others) × (cells ≡ others → sealed L cells ≡ sealed L others)
