-- The meaning of a pool: a list of records and a fixed capacity.
use Rattle.std.specs.Prelude.{◌≡◌, ℕ, ◌*◌, ◌≤◌, min, Bool, cond, List, [], ◌∷◌, ◌++◌, length, take, nat_le}
use Rattle.std.proofs.Common.{arith}
use Rattle.nodes.specs.declared.node.Node.{Node}
use Rattle.nodes.specs.Records.{blank}
use Rattle.nodes.specs.Format.{node_bytes, read_nodes}
use Rattle.nodes.specs.Memory.{laid}

-- no pool holds more records than this, so that none has the number of the link that leads nowhere
abbrev pub most : ℕ
most = 65535

-- the capacity of memory that has room for n records
abbrev pub capped : ℕ → ℕ
capped n = min n most

pub capped_bounded : (n : ℕ) → capped n ≤ most
capped_bounded n = omega arith

-- lent memory: records, or bytes
pub data Memory : Type 0 where
  records : List Node → Memory
  bytes : List ℕ → Memory

-- the part of lent memory in which the first n records lie
abbrev pub front : ℕ → Memory → Memory
front n (records rows) = records (take n rows)
front n (bytes all) = bytes (take (node_bytes * n) all)

-- what the whole lent memory of a pool holds: the list, blanks up to the capacity, and what lies behind
abbrev pub Holds : Memory → List Node → ℕ → Memory → Type 0
Holds (records rows) nodes capacity (records behind) = rows ≡ laid blank nodes capacity behind
Holds (bytes all) nodes capacity (bytes behind) = (nodes ≡ read_nodes (length nodes) all) × (all ≡ laid 0 (take (node_bytes * length nodes) all) (node_bytes * capacity) behind)
Holds (records rows) nodes capacity (bytes behind) = ⊥
Holds (bytes all) nodes capacity (records behind) = ⊥

-- a pool is full if its list is as long as its capacity
abbrev pub full : List Node → ℕ → Bool
full nodes capacity = nat_le capacity (length nodes)

-- the list after a record was added at the end; nothing is added to a full pool
abbrev pub added : List Node → ℕ → Node → List Node
added nodes capacity node = cond (full nodes capacity) nodes (nodes ++ node ∷ [])
