-- The hall in cells: levels, sides, the code of a cell and the cell of a code.
use Rattle.std.specs.Prelude.{◌≡◌, ℕ, zero, suc, ◌+◌, ◌*◌, ◌/◌, ◌%◌, ◌^◌, Bool, ◌&&◌, nat_le, nat_lt}
use Rattle.cells.specs.declared.hall.Cell.{Cell}

-- no hall has more levels than this
abbrev pub most_levels : ℕ
most_levels = 10

-- a hall has 1 to 10 levels
abbrev pub levels_fit : ℕ → Bool
levels_fit L = nat_le 1 L && nat_le L most_levels

-- the number of cells along each axis
abbrev pub side : ℕ → ℕ
side L = 2 ^ L

-- the number of cells, and so of codes: the codes are 0 to 8 ^ L - 1
abbrev pub volume : ℕ → ℕ
volume L = 8 ^ L

-- each coordinate is below the side
abbrev pub cell_fits : ℕ → Cell → Bool
cell_fits L c = nat_lt c.x (side L) && nat_lt c.y (side L) && nat_lt c.z (side L)

-- bit j of a number; bit 0 is the lowest
abbrev pub bit : ℕ → ℕ → ℕ
bit j n = n / 2 ^ j % 2

-- the number with n digits in base b, of which digit j, counted from the lowest, is d j
unfoldable pub from_digits : ℕ → (ℕ → ℕ) → ℕ → ℕ
from_digits b d zero = 0
from_digits b d (suc n) = d n * b ^ n + from_digits b d n

-- the code of a cell: three bits for each j below the levels, bit j of x lowest, then that of y, then that of z
abbrev pub code_of : ℕ → Cell → ℕ
code_of L c = from_digits 8 (λ j. bit j c.x + 2 * bit j c.y + 4 * bit j c.z) L

-- coordinate a of a code's cell, 0 for x, 1 for y and 2 for z: its bit j is bit 3j + a of the code
abbrev pub axis : ℕ → ℕ → ℕ → ℕ
axis L a n = from_digits 2 (λ j. bit (3 * j + a) n) L

-- the cell of a code
abbrev pub cell_at : ℕ → ℕ → Cell
cell_at L n = record { x = axis L 0 n; y = axis L 1 n; z = axis L 2 n }

-- for each j from 0, bits 3j, 3j + 1 and 3j + 2 of the code are bit j of x, y and z
abbrev pub CodeBits : Cell → ℕ → Type 0
CodeBits c n = (j : ℕ) → (bit (3 * j) n ≡ bit j c.x) × (bit (3 * j + 1) n ≡ bit j c.y) × (bit (3 * j + 2) n ≡ bit j c.z)
