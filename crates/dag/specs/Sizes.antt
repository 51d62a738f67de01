-- How many cells are under a record, and so which offsets are right.
use Rattle.std.specs.Prelude.{◌≡◌, ℕ, zero, suc, ◌+◌, ◌<◌, Bool, cond, List, ◌==◌}
use Rattle.cells.specs.Hall.{bit}
use Rattle.nodes.specs.Records.{children}
use Rattle.nodes.specs.declared.node.Node.{Node}
use Rattle.dag.specs.Rules.{node_at, link_of, offset_of}

-- whether a record has child i
abbrev pub has_child : Node → ℕ → Bool
has_child a i = bit i a.mask == 1

-- the sum of f 0 to f (n - 1)
unfoldable pub sum_to : (ℕ → ℕ) → ℕ → ℕ
sum_to f zero = 0
sum_to f (suc n) = sum_to f n + f n

-- the number of cells under record n of level k; level 0 is the cell itself
unfoldable pub size : List Node → ℕ → ℕ → ℕ
size ns zero n = 1
size ns (suc k) n = sum_to (λ i. cond (has_child (node_at ns n) i) (size ns k (link_of (node_at ns n) i)) 0) children

-- the number of cells under child i of record n of level k + 1
abbrev pub cells_at : List Node → ℕ → ℕ → ℕ → ℕ
cells_at ns k n i = cond (has_child (node_at ns n) i) (size ns k (link_of (node_at ns n) i)) 0

-- the number of cells under the children before child i
abbrev pub size_before : List Node → ℕ → ℕ → ℕ → ℕ
size_before ns k n i = sum_to (cells_at ns k n) i

-- each offset of record n is the number of cells under the children before, and 0 where there is no child
abbrev pub RightOffsets : List Node → ℕ → Type 0
RightOffsets ns n = (k : ℕ) → (node_at ns n).level ≡ suc k → (i : ℕ) → i < children
    → offset_of (node_at ns n) i ≡ cond (has_child (node_at ns n) i) (size_before ns k n i) 0
