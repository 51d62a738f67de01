-- The sub-cubes of a hall. Those of level k have 8 ^ k cells each, and their codes follow one another.
use Rattle.std.specs.Prelude.{◌≡◌, ℕ, ◌+◌, ◌-◌, ◌*◌, ◌/◌, ◌%◌, ◌^◌, ◌<◌, ◌≤◌}

-- the number of the sub-cube of level k that holds a code
abbrev pub sub_cube : ℕ → ℕ → ℕ
sub_cube k c = c / 8 ^ k

-- the child that a code lies in, of its sub-cube of level k
abbrev pub child : ℕ → ℕ → ℕ
child k c = c / 8 ^ (k - 1) % 8

-- a code lies in sub-cube s of level k exactly if it is one of s × 8 ^ k to (s + 1) × 8 ^ k - 1
abbrev pub InSubCubes : ℕ → Type 0
InSubCubes c = (k s : ℕ) → (sub_cube k c ≡ s → (s * 8 ^ k ≤ c) × (c < (s + 1) * 8 ^ k)) × ((s * 8 ^ k ≤ c) → (c < (s + 1) * 8 ^ k) → sub_cube k c ≡ s)
