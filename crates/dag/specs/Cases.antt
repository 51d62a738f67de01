-- Worked halls, to be proved by computing.
use Rattle.std.specs.Prelude.{◌≡◌, ℕ, zero, suc, ◌+◌, List, [], ◌∷◌, replicate}
use Rattle.nodes.specs.Records.{none}
use Rattle.nodes.specs.declared.node.Node.{Node}
use Rattle.dag.specs.Sealed.{sealed}

-- a record, written out
abbrev pub node : ℕ → ℕ → List ℕ → List ℕ → Node
node level mask links offsets = record { level = level; mask = mask; links = links; offsets = offsets }

-- the links of a record of level 1
abbrev pub no_links : List ℕ
no_links = replicate 8 none

-- 1 level, cells 0, 3 and 7: one record
abbrev pub ThreeCells : Type 0
ThreeCells = sealed 1 (0 ∷ 3 ∷ 7 ∷ []) ≡ node 1 137 no_links (0 ∷ 0 ∷ 0 ∷ 1 ∷ 0 ∷ 0 ∷ 0 ∷ 2 ∷ []) ∷ []

-- the codes from `from` on, as many as `many`
abbrev pub codes_from : ℕ → ℕ → List ℕ
codes_from zero from = []
codes_from (suc many) from = from ∷ codes_from many (from + 1)

-- 2 levels, all 64 cells: one record serves all eight children
abbrev pub FullHall : Type 0
FullHall = sealed 2 (codes_from 64 0) ≡
    node 1 255 no_links (0 ∷ 1 ∷ 2 ∷ 3 ∷ 4 ∷ 5 ∷ 6 ∷ 7 ∷ [])
    ∷ node 2 255 (replicate 8 0) (0 ∷ 8 ∷ 16 ∷ 24 ∷ 32 ∷ 40 ∷ 48 ∷ 56 ∷ [])
    ∷ []

-- 2 levels, cells 0, 8 and 17: three records, of which the first serves two children
abbrev pub ThreeRecords : Type 0
ThreeRecords = sealed 2 (0 ∷ 8 ∷ 17 ∷ []) ≡
    node 1 1 no_links (replicate 8 0)
    ∷ node 1 2 no_links (replicate 8 0)
    ∷ node 2 7 (0 ∷ 0 ∷ 1 ∷ replicate 5 none) (0 ∷ 1 ∷ 2 ∷ replicate 5 0)
    ∷ []

-- no cells: no records
abbrev pub NoCells : Type 0
NoCells = sealed 2 [] ≡ []
