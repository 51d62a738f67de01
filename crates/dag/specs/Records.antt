-- The record of a sub-cube, for given cells and against the list so far.
use Rattle.std.specs.Prelude.{ℕ, zero, suc, ◌+◌, ◌*◌, ◌^◌, Bool, true, false, cond, ◌&&◌, List, [], ◌∷◌, ◌==◌}
use Rattle.cells.specs.Hall.{from_digits}
use Rattle.nodes.specs.Records.{none, children}
use Rattle.nodes.specs.declared.node.Node.{Node}
use Rattle.dag.specs.Sets.{count, holds}

-- whether two lists of numbers are the same
abbrev pub same_numbers : List ℕ → List ℕ → Bool
same_numbers [] [] = true
same_numbers [] (b ∷ bs) = false
same_numbers (a ∷ more) [] = false
same_numbers (a ∷ more) (b ∷ bs) = a == b && same_numbers more bs

-- whether two records are equal, in all four parts
abbrev pub same_node : Node → Node → Bool
same_node a b = a.level == b.level && a.mask == b.mask && same_numbers a.links b.links && same_numbers a.offsets b.offsets

-- the lowest number of a record that equals the given one, or the length where there is none
unfoldable pub lowest : List Node → Node → ℕ
lowest [] node = 0
lowest (n ∷ ns) node = cond (same_node n node) 0 (suc (lowest ns node))

-- the first code of sub-cube s of level k
abbrev pub first : ℕ → ℕ → ℕ
first k s = s * 8 ^ k

-- whether sub-cube s of level k holds a cell; on level 0 it is the cell s itself
abbrev pub occupied : List ℕ → ℕ → ℕ → Bool
occupied cells k s = holds cells (first k s) (first k (s + 1))

-- the numbers f 0 to f 7
abbrev pub eight : (ℕ → ℕ) → List ℕ
eight f = f 0 ∷ f 1 ∷ f 2 ∷ f 3 ∷ f 4 ∷ f 5 ∷ f 6 ∷ f 7 ∷ []

-- the record of sub-cube s of level k + 1, whose children are the sub-cubes 8s to 8s + 7 of level k:
-- bit i is set exactly if child i holds a cell; offset i is then the number of cells in the children before i
abbrev pub node_of : List ℕ → ℕ → ℕ → (ℕ → ℕ) → Node
node_of cells k s link = record {
  level = suc k;
  mask = from_digits 2 (λ i. cond (occupied cells k (8 * s + i)) 1 0) children;
  links = eight (λ i. cond (occupied cells k (8 * s + i)) (link (8 * s + i)) none);
  offsets = eight (λ i. cond (occupied cells k (8 * s + i)) (count cells (first k (8 * s)) (first k (8 * s + i))) 0);
}

-- the link to sub-cube s of level k: a cell has no record, and any other sub-cube's record is sought in the list
unfoldable pub link_to : List ℕ → List Node → ℕ → ℕ → ℕ
link_to cells ns zero s = none
link_to cells ns (suc k) s = lowest ns (node_of cells k s (link_to cells ns k))

-- the record of sub-cube s of level k + 1
abbrev pub record_of : List ℕ → List Node → ℕ → ℕ → Node
record_of cells ns k s = node_of cells k s (link_to cells ns k)
