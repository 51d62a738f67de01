-- Meeting the records of a list from the root down, children first.
use Rattle.std.specs.Prelude.{ℕ, zero, suc, cond, List, length, ◌==◌, nat_lt}
use Rattle.nodes.specs.Records.{children}
use Rattle.nodes.specs.declared.node.Node.{Node}
use Rattle.dag.specs.Rules.{node_at, link_of}
use Rattle.dag.specs.Sizes.{has_child}

-- n steps in a row, by rising number
unfoldable pub through : (ℕ → ℕ → ℕ) → ℕ → ℕ → ℕ
through f zero m = m
through f (suc n) m = f n (through f n m)

-- leaving record n, with m records met before it: its number must be m. A number past the list is a failure, which stays
abbrev pub leave : List Node → ℕ → ℕ → ℕ
leave ns n m = cond (n == m) (suc m) (suc (length ns))

-- how many records have been met after record n of level k was gone into, where the first m were met before:
-- a record with a number below m was met, and so was all below it; any other is met after its children
unfoldable pub meet : List Node → ℕ → ℕ → ℕ → ℕ
meet ns zero n m = m
meet ns (suc k) n m =
    cond (nat_lt n m) m
    (leave ns n (through (λ i m. cond (has_child (node_at ns n) i) (meet ns k (link_of (node_at ns n) i) m) m) children m))

-- the same for the first i children of record n of level k + 1
abbrev pub meet_children : List Node → ℕ → ℕ → ℕ → ℕ → ℕ
meet_children ns k n i m = through (λ i m. cond (has_child (node_at ns n) i) (meet ns k (link_of (node_at ns n) i) m) m) i m
