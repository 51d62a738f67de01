-- The open rows of a builder that takes cells by rising code, and how it closes them.
use Rattle.std.specs.Prelude.{ℕ, zero, suc, ◌+◌, ◌*◌, ◌%◌, ◌^◌, cond, ◌&&◌, List, replicate, ◌==◌, nat_lt, slice_set}
use Rattle.cells.specs.Hall.{from_digits}
use Rattle.cells.specs.SubCubes.{sub_cube}
use Rattle.nodes.specs.Records.{none, children}
use Rattle.nodes.specs.declared.node.Node.{Node}
use Rattle.dag.specs.Sets.{count}
use Rattle.dag.specs.Records.{first, occupied, eight, link_to}
use Rattle.dag.specs.Sealed.{turn, below}

-- the record of sub-cube s of level k + 1 with only its first n children
unfoldable pub row_node : List ℕ → List Node → ℕ → ℕ → ℕ → Node
row_node cells ns k s n = record {
  level = suc k;
  mask = from_digits 2 (λ i. cond (nat_lt i n && occupied cells k (8 * s + i)) 1 0) children;
  links = eight (λ i. cond (nat_lt i n && occupied cells k (8 * s + i)) (link_to cells ns k (8 * s + i)) none);
  offsets = eight (λ i. cond (nat_lt i n && occupied cells k (8 * s + i)) (count cells (first k (8 * s)) (first k (8 * s + i))) 0);
}

-- how many cells those children hold
unfoldable pub row_count : List ℕ → ℕ → ℕ → ℕ → ℕ
row_count cells k s n = count cells (first k (8 * s)) (first k (8 * s + n))

-- a row of level k + 1 without children
abbrev pub empty_row : ℕ → Node
empty_row k = record { level = suc k; mask = 0; links = replicate children none; offsets = replicate children 0 }

-- a row with child n added, which was not there: its link, and its offset
unfoldable pub with_child : Node → ℕ → ℕ → ℕ → Node
with_child row n link offset = record {
  level = row.level;
  mask = row.mask + 2 ^ n;
  links = slice_set row.links n link;
  offsets = slice_set row.offsets n offset;
}

-- the list after the turns of the sub-cubes of code m of levels 1 to r, the lower level first
unfoldable pub carry : List ℕ → ℕ → ℕ → List Node → List Node
carry cells m zero ns = ns
carry cells m (suc r) ns = turn cells r (sub_cube (suc r) m) (carry cells m r ns)

-- the list with code m the last cell and levels 1 to r closed
abbrev pub staged : ℕ → List ℕ → ℕ → ℕ → List Node
staged L cells m r = carry cells m r (below L cells m)

-- how many children the row of level j + 1 has, with code m the last cell and levels 1 to r closed:
-- those before the child of m, and that child too right above the closed levels
abbrev pub stage_width : ℕ → ℕ → ℕ → ℕ
stage_width m r j = sub_cube j m % 8 + cond (j == r) 1 0

-- that row, which is empty on a closed level, and its running count
unfoldable pub stage_row : List ℕ → List Node → ℕ → ℕ → ℕ → Node
stage_row cells ns m r j = cond (nat_lt j r) (empty_row j) (row_node cells ns j (sub_cube (suc j) m) (stage_width m r j))

unfoldable pub stage_count : List ℕ → ℕ → ℕ → ℕ → ℕ
stage_count cells m r j = cond (nat_lt j r) 0 (row_count cells j (sub_cube (suc j) m) (stage_width m r j))
