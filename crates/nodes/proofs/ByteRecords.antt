-- Records in bytes, 50 bytes each.
use Rattle.std.proofs.Common.{◌≡◌, ℕ, zero, suc, ◌+◌, ◌-◌, ◌*◌, ◌<◌, ◌≤◌, List, [], ◌∷◌, ◌++◌, length, get_or, take, drop, sym, refl, ap, ◌∙◌, arith}
use Rattle.std.proofs.lemmas.List.{length-drop, take-append-le, drop-append-le, take-take, drop-drop, drop-take, get_or-take, get_or-drop}
use Rattle.nodes.specs.declared.node.Node.{Node}
use Rattle.std.specs.List.{between}
use Rattle.nodes.specs.Records.{blank, children}
use Rattle.nodes.specs.Format.{node_bytes, read_node, read_nodes, value_of}
use Rattle.nodes.proofs.Numbers.{get_d_values}

-- record n of those that are read
pub get_d_nodes : (c n : ℕ) (bs : List ℕ) (d : Node) → n < c → get_or (read_nodes c bs) n d ≡ read_node (take node_bytes (drop (node_bytes * n) bs))
unfolding read_nodes
get_d_nodes zero n bs d lt = absurd (omega arith)
get_d_nodes (suc c) zero bs d lt = refl
get_d_nodes (suc c) (suc n) bs d lt =
    let e : node_bytes + node_bytes * n ≡ node_bytes * suc n = omega arith in
    get_d_nodes c n (drop node_bytes bs) d (omega arith)
    ∙ ap (λ l. read_node (take node_bytes l)) (drop-drop (node_bytes * n) node_bytes bs ∙ ap (λ k. drop k bs) e)

-- fewer records are the first of them
pub take_nodes : (n c : ℕ) (bs : List ℕ) → n ≤ c → take n (read_nodes c bs) ≡ read_nodes n bs
unfolding read_nodes
take_nodes zero c bs le = refl
take_nodes (suc n) zero bs le = absurd (omega arith)
take_nodes (suc n) (suc c) bs le = ap (λ l. read_node (take node_bytes bs) ∷ l) (take_nodes n c (drop node_bytes bs) (omega arith))

-- records one behind another
pub nodes_append : (n k : ℕ) (xs ys : List ℕ) → length xs ≡ node_bytes * n → read_nodes (n + k) (xs ++ ys) ≡ read_nodes n xs ++ read_nodes k ys
unfolding read_nodes
nodes_append zero k [] ys e = let z : 0 + k ≡ k = omega arith in ap (λ j. read_nodes j ys) z
nodes_append zero k (x ∷ xs) ys e = absurd (omega arith)
nodes_append (suc n) k xs ys e =
    let s : suc n + k ≡ suc (n + k) = omega arith in
    let d : length (drop node_bytes xs) ≡ node_bytes * n = simp length-drop (omega arith) in
    let m : node_bytes ≤ length xs = omega arith in
    rw (s, take-append-le node_bytes xs ys m, drop-append-le node_bytes xs ys m, nodes_append n k (drop node_bytes xs) ys d)

-- a part of a part
part_of_part : {X : Type 0} (w j k : ℕ) (xs : List X) → j + w ≤ k → take w (drop j (take k xs)) ≡ take w (drop j xs)
part_of_part w j k xs le =
    let e : j + (k - j) ≡ k = omega arith in
    ap (λ q. take w (drop j (take q xs))) (sym e) ∙ ap (take w) (drop-take j (k - j) xs) ∙ take-take w (k - j) (drop j xs) (omega arith)

-- the bytes of number i of a field of the record at place a
field_part : (w i s t a : ℕ) (bs : List ℕ) → w * i + w ≤ t → s + t ≤ node_bytes → take w (drop (w * i) (take t (drop s (take node_bytes (drop a bs))))) ≡ take w (drop (a + s + w * i) bs)
field_part w i s t a bs le le' =
    let e : a + (s + w * i) ≡ a + s + w * i = omega arith in
    part_of_part w (w * i) t (drop s (take node_bytes (drop a bs))) le
    ∙ ap (take w) (drop-drop (w * i) s (take node_bytes (drop a bs)))
    ∙ part_of_part w (s + w * i) node_bytes (drop a bs) (omega arith)
    ∙ ap (take w) (drop-drop (s + w * i) a bs ∙ ap (λ k. drop k bs) e)

-- the fields of record n, where they stand
module _ (c n : ℕ) (bs : List ℕ) (inside : n < c) where
  pub level_at : (get_or (read_nodes c bs) n blank).level ≡ get_or bs (node_bytes * n) 0
  unfolding read_node
  level_at =
      let e : node_bytes * n + 0 ≡ node_bytes * n = omega arith in
      ap (λ (node : Node). node.level) (get_d_nodes c n bs blank inside)
      ∙ get_or-take node_bytes (drop (node_bytes * n) bs) 0 0 (omega arith)
      ∙ get_or-drop (node_bytes * n) bs 0 0
      ∙ ap (λ k. get_or bs k 0) e

  pub mask_at : (get_or (read_nodes c bs) n blank).mask ≡ get_or bs (node_bytes * n + 1) 0
  unfolding read_node
  mask_at =
      ap (λ (node : Node). node.mask) (get_d_nodes c n bs blank inside)
      ∙ get_or-take node_bytes (drop (node_bytes * n) bs) 1 0 (omega arith)
      ∙ get_or-drop (node_bytes * n) bs 1 0

  pub link_at : (i : ℕ) → i < children → get_or (get_or (read_nodes c bs) n blank).links i 0 ≡ value_of (take 2 (drop (node_bytes * n + 2 + 2 * i) bs))
  unfolding read_node
  link_at i lt =
      ap (λ (node : Node). get_or node.links i 0) (get_d_nodes c n bs blank inside)
      ∙ get_d_values 2 children i (between 2 18 (take node_bytes (drop (node_bytes * n) bs))) lt
      ∙ ap value_of (field_part 2 i 2 16 (node_bytes * n) bs (omega arith) (omega arith))

  pub offset_at : (i : ℕ) → i < children → get_or (get_or (read_nodes c bs) n blank).offsets i 0 ≡ value_of (take 4 (drop (node_bytes * n + 18 + 4 * i) bs))
  unfolding read_node
  offset_at i lt =
      ap (λ (node : Node). get_or node.offsets i 0) (get_d_nodes c n bs blank inside)
      ∙ get_d_values 4 children i (between 18 50 (take node_bytes (drop (node_bytes * n) bs))) lt
      ∙ ap value_of (field_part 4 i 18 32 (node_bytes * n) bs (omega arith) (omega arith))
