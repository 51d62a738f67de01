-- Lent memory as a pool's caller knows it.
use Rattle.std.proofs.Common.{◌≡◌, ℕ, ◌*◌, List, length, take, sym, ap, ◌∙◌}
use Rattle.nodes.specs.declared.node.Node.{Node}
use Rattle.nodes.specs.Format.{node_bytes}
use Rattle.nodes.specs.Memory.{laid}
use Rattle.nodes.specs.Pools.{Holds, Memory, records, bytes, front}

-- Two memories with one list, one capacity and the same in front and behind are the same: adding and cutting back changes nothing.
pub same_memory : (m m' b : Memory) (nodes : List Node) (p : ℕ) → Holds m nodes p b → Holds m' nodes p b → front (length nodes) m ≡ front (length nodes) m' → m ≡ m'
same_memory (records m) (records m') (records b) nodes p h h' e = ap records (h ∙ sym h')
same_memory (bytes m) (bytes m') (bytes b) nodes p h h' e =
    let t : take (node_bytes * length nodes) m ≡ take (node_bytes * length nodes) m' = cc in
    ap bytes (h.1 ∙ ap (λ l. laid 0 l (node_bytes * p) b) t ∙ sym h'.1)
same_memory (records m) (records m') (bytes b) nodes p h h' e = absurd h
same_memory (records m) (bytes m') (bytes b) nodes p h h' e = absurd h
same_memory (records m) (bytes m') (records b) nodes p h h' e = absurd h'
same_memory (bytes m) (records m') (bytes b) nodes p h h' e = absurd h'
same_memory (bytes m) (records m') (records b) nodes p h h' e = absurd h
same_memory (bytes m) (bytes m') (records b) nodes p h h' e = absurd h
