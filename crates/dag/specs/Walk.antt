-- The walk from the root to a cell.
use Rattle.std.specs.Prelude.{◌≡◌, ℕ, zero, suc, ◌+◌, ◌-◌, ◌^◌, ◌<◌, Bool, true, not, ◌&&◌, List, [], ◌∷◌, length, ◌==◌, nat_lt}
use Rattle.cells.specs.Hall.{bit}
use Rattle.cells.specs.SubCubes.{child}
use Rattle.nodes.specs.Records.{none}
use Rattle.nodes.specs.declared.node.Node.{Node}
use Rattle.dag.specs.Sets.{has}
use Rattle.dag.specs.Rules.{node_at, link_of, offset_of}

-- whether a walk may go from record n to number m on level k: m is no empty link, but an earlier record of that level.
-- Level 0 is the cell itself, which has no record
abbrev pub leads : List Node → ℕ → ℕ → ℕ → Bool
leads ns n zero m = true
leads ns n (suc k) m = not (m == none) && nat_lt m n && (node_at ns m).level == suc k

-- whether the walk to a code arrives from record n of level k: a clear bit is free, and so is a link that does not lead on
unfoldable pub walk : List Node → ℕ → ℕ → ℕ → Bool
walk ns zero n code = true
walk ns (suc k) n code =
    let i = child (suc k) code in
    let m = link_of (node_at ns n) i in
    (bit i (node_at ns n).mask == 1) && leads ns n k m && walk ns k m code

-- the number of the root, the last record
abbrev pub root : List Node → ℕ
root ns = length ns - 1

-- whether a list with L levels marks a code: an empty list marks none, and a last record of another level is no root
abbrev pub marks : ℕ → List Node → ℕ → Bool
marks L ns code = nat_lt 0 (length ns) && (node_at ns (root ns)).level == L && walk ns L (root ns) code

-- a list with L levels marks exactly the given cells
abbrev pub MarksExactly : ℕ → List Node → List ℕ → Type 0
MarksExactly L ns cells = (code : ℕ) → code < 8 ^ L → marks L ns code ≡ has cells code

-- the path to a code from record n of level k: each record with the offset at the child taken
unfoldable pub path : List Node → ℕ → ℕ → ℕ → List (ℕ × ℕ)
path ns zero n code = []
path ns (suc k) n code =
    let i = child (suc k) code in
    (n, offset_of (node_at ns n) i) ∷ path ns k (link_of (node_at ns n) i) code

-- the sum of the offsets on a path
abbrev pub total : List (ℕ × ℕ) → ℕ
total [] = 0
total (step ∷ steps) = step.1 + total steps

-- the rank of a cell: the offsets on its path added up
abbrev pub rank : ℕ → List Node → ℕ → ℕ
rank L ns code = total (path ns L (root ns) code)
