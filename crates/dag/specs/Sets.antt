-- Sets of cells, by their codes.
use Rattle.std.specs.Prelude.{ℕ, ◌+◌, ◌^◌, ◌<◌, Bool, false, cond, ◌&&◌, ◌||◌, List, [], ◌∷◌, ◌==◌, nat_le, nat_lt}
use Rattle.std.specs.List.{AllByRecursion}

-- each code is above the one before it
abbrev pub Rising : List ℕ → Type 0
Rising [] = Unit {0}
Rising (c ∷ []) = Unit {0}
Rising (c ∷ d ∷ cs) = (c < d) × Rising (d ∷ cs)

-- a set of cells of a hall with L levels: rising codes below 8 ^ L
pub record CellSet (L : ℕ) (cells : List ℕ) : Type 0 where
  pub rising : Rising cells
  pub inside : AllByRecursion (λ c. c < 8 ^ L) cells

-- whether a code is one of the cells
unfoldable pub has : List ℕ → ℕ → Bool
has [] code = false
has (c ∷ cells) code = c == code || has cells code

-- how many cells have a code from `from` on and below `to`
unfoldable pub count : List ℕ → ℕ → ℕ → ℕ
count [] from to = 0
count (c ∷ cells) from to = cond (nat_le from c && nat_lt c to) 1 0 + count cells from to

-- whether there is such a cell
abbrev pub holds : List ℕ → ℕ → ℕ → Bool
holds cells from to = nat_lt 0 (count cells from to)
