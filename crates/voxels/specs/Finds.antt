-- What a walk through a node list finds.
use Rattle.std.specs.Prelude.{◌≡◌, ℕ, suc, ◌+◌, ◌^◌, ◌<◌, Bool, false, cond, ◌&&◌, List, length, Some, None, Option, ◌==◌, nat_lt}
use Rattle.cells.specs.SubCubes.{child}
use Rattle.nodes.specs.declared.node.Node.{Node}
use Rattle.voxels.specs.declared.found.Found.{Found}
use Rattle.dag.specs.Rules.{node_at}
use Rattle.dag.specs.Walk.{marks, rank, root, walk, path, total}

-- the rank of a code that the list marks; any other code is free
abbrev pub found : ℕ → List Node → ℕ → Option ℕ
found L ns code = cond (marks L ns code) (Some (rank L ns code)) None

-- the tag of the cell with a rank, and the rank
abbrev pub ranked : {K : Type 0} → ℕ → Option K → Option (Found K)
ranked rank None = None
ranked rank (Some tag) = Some (record { rank = rank; tag = tag })

-- whether a list has a root: its last record has the level of the whole hall
abbrev pub has_root : ℕ → List Node → Bool
has_root L ns = nat_lt 0 (length ns) && (node_at ns (root ns)).level == L

-- a record that is the root
pub record IsRoot (L : ℕ) (ns : List Node) (n : ℕ) : Type 0 where
  pub last : n ≡ root ns
  pub some : 0 < length ns
  pub level : (node_at ns (root ns)).level ≡ L

-- no walk from record n of level k + 1 arrives in child i
abbrev pub Shut : List Node → ℕ → ℕ → ℕ → Type 0
Shut ns k n i = (code : ℕ) → child (suc k) code ≡ i → walk ns (suc k) n code ≡ false

-- one step of a walk, from record n of level k + 1 to child i: it goes on to a record, and adds an offset to the rank
pub record GoesTo (ns : List Node) (k n i : ℕ) (next offset : ℕ) : Type 0 where
  pub walks : (code : ℕ) → child (suc k) code ≡ i → walk ns (suc k) n code ≡ walk ns k next code
  pub adds : (code : ℕ) → child (suc k) code ≡ i → total (path ns (suc k) n code) ≡ offset + total (path ns k next code)
  pub inside : next < length ns
  pub small : offset < 2 ^ 32
