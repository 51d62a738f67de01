-- The laws of the two kinds of places: a place is a record, or a byte of a written one.
use Rattle.std.specs.Prelude.{◌≡◌, ℕ, zero, suc, ◌+◌, ◌*◌, ◌≤◌, List, [], ◌∷◌, ◌++◌, length, take, drop, slice_index_or, refl}
use Rattle.std.proofs.Common.{sym, ap, ◌∙◌, arith}
use Rattle.std.proofs.lemmas.List.{take_more, take-take, length-drop, drop-drop, drop-take, get_or-take, get_or-drop}
use Rattle.nodes.specs.declared.node.Node.{Node}
use Rattle.nodes.specs.Records.{blank}
use Rattle.nodes.specs.Format.{node_bytes, read_node, read_nodes, length_nodes}
use Rattle.nodes.specs.Memory.{laid}
use Rattle.nodes.specs.Pools.{Holds, bytes}

-- one record more of a list of records
pub rows_more : (n : ℕ) (m : List Node) → n + 1 ≤ length m → take (n + 1) m ≡ take n m ++ slice_index_or (take 1 (drop n m)) 0 blank ∷ []
rows_more n m le =
    let e : n + 0 ≡ n = omega arith in
    let x : slice_index_or m n blank ≡ slice_index_or (take 1 (drop n m)) 0 blank =
    sym (get_or-take 1 (drop n m) 0 blank (omega arith) ∙ get_or-drop n m 0 blank ∙ ap (λ k. slice_index_or m k blank) e) in
    take_more m n blank (omega arith) ∙ ap (λ y. take n m ++ y ∷ []) x

-- and of written records
pub nodes_more : (n : ℕ) (bs : List ℕ) → read_nodes (n + 1) bs ≡ read_nodes n bs ++ read_node (take node_bytes (drop (node_bytes * n) bs)) ∷ []
unfolding read_nodes
nodes_more zero bs = refl
nodes_more (suc n) bs =
    let e : suc n + 1 ≡ suc (n + 1) = omega arith in
    let d : node_bytes + node_bytes * n ≡ node_bytes * suc n = omega arith in
    ap (λ k. read_nodes k bs) e
    ∙ ap (λ l. read_node (take node_bytes bs) ∷ l) (nodes_more n (drop node_bytes bs))
    ∙ ap (λ l. read_node (take node_bytes bs) ∷ (read_nodes n (drop node_bytes bs) ++ read_node (take node_bytes l) ∷ [])) (drop-drop (node_bytes * n) node_bytes bs ∙ ap (λ k. drop k bs) d)

-- written records depend on their own bytes only
pub nodes_own : (n : ℕ) (bs : List ℕ) → node_bytes * n ≤ length bs → read_nodes n (take (node_bytes * n) bs) ≡ read_nodes n bs
unfolding read_nodes
nodes_own zero bs le = refl
nodes_own (suc n) bs le =
    let e : node_bytes * suc n ≡ node_bytes + node_bytes * n = omega arith in
    let t : take node_bytes (take (node_bytes * suc n) bs) ≡ take node_bytes bs = take-take node_bytes (node_bytes * suc n) bs (omega arith) in
    let d : drop node_bytes (take (node_bytes * suc n) bs) ≡ take (node_bytes * n) (drop node_bytes bs) =
    ap (λ k. drop node_bytes (take k bs)) e ∙ drop-take node_bytes (node_bytes * n) bs in
    let l : node_bytes * n ≤ length (drop node_bytes bs) = simp length-drop (omega arith) in
    rw (t, d, nodes_own n (drop node_bytes bs) l)

-- bytes in order hold their records
pub bytes_hold : (n p : ℕ) (m b : List ℕ) → m ≡ laid 0 (take (node_bytes * n) m) (node_bytes * p) b → Holds (bytes m) (read_nodes n m) p (bytes b)
bytes_hold n p m b h =
    let e = sym (length_nodes n m) in
    (ap (λ k. read_nodes k m) e, h ∙ ap (λ k. laid 0 (take (node_bytes * k) m) (node_bytes * p) b) e)
