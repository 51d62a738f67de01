-- The sealed list.
use Rattle.std.specs.Prelude.{◌≡◌, ℕ, zero, suc, ◌+◌, ◌%◌, ◌^◌, Bool, cond, List, [], ◌∷◌, ◌++◌, length, ◌==◌, nat_lt}
use Rattle.cells.specs.SubCubes.{sub_cube}
use Rattle.nodes.specs.declared.node.Node.{Node}
use Rattle.dag.specs.Records.{lowest, occupied, record_of}

-- whether an equal record is in the list
abbrev pub there : List Node → Node → Bool
there ns node = nat_lt (lowest ns node) (length ns)

-- the list with a record written, unless an equal one is there
abbrev pub written : List Node → Node → List Node
written ns node = cond (there ns node) ns (ns ++ node ∷ [])

-- the list after the turn of sub-cube s of level k + 1: its record is written if it holds a cell
unfoldable pub turn : List ℕ → ℕ → ℕ → List Node → List Node
turn cells k s ns = cond (occupied cells (suc k) s) (written ns (record_of cells ns k s)) ns

-- whether a sub-cube of level k ends with this code
abbrev pub ends : ℕ → ℕ → Bool
ends k code = (code + 1) % 8 ^ k == 0

-- the list after the turns of the sub-cubes of levels 1 to k that end with this code, the lower level first
unfoldable pub closing : List ℕ → ℕ → ℕ → List Node → List Node
closing cells code zero ns = ns
closing cells code (suc k) ns =
    cond (ends (suc k) code) (turn cells k (sub_cube (suc k) code) (closing cells code k ns)) (closing cells code k ns)

-- the list of the sub-cubes whose last code is below m, by rising last code
unfoldable pub below : ℕ → List ℕ → ℕ → List Node
below L cells zero = []
below L cells (suc m) = closing cells m L (below L cells m)

-- the sealed list of a set of cells
abbrev pub sealed : ℕ → List ℕ → List Node
sealed L cells = below L cells (8 ^ L)

-- a list is a beginning of another
abbrev pub Begins : List Node → List Node → Type 0
Begins ns ms = (rest : List Node) × (ms ≡ ns ++ rest)
