-- Node records.
use Rattle.std.specs.Prelude.{ℕ, cond, List, replicate, nat_lt, slice_index}
use Rattle.nodes.specs.declared.node.Node.{Node}

-- a record has eight children
abbrev pub children : ℕ
children = 8

-- the link that leads nowhere
abbrev pub none : ℕ
none = 65535

-- the blank record: all zeros, its links too
abbrev pub blank : Node
blank = record { level = 0; mask = 0; links = replicate children 0; offsets = replicate children 0 }

-- the number that stands for child i in a list of eight, or 0 where i is no child
abbrev pub of_child : ℕ → List ℕ → ℕ
of_child i numbers = cond (nat_lt i children) (slice_index numbers i) 0
