-- Records and their bytes: what is written is read again, and what is read is written again.
use Rattle.std.proofs.Common.{◌≡◌, ℕ, ◌*◌, ◌<◌, List, [], ◌∷◌, ◌++◌, length, get_or, take, drop, set, ap, ◌∙◌, subst, arith}
use borrow.Rule.Slice.PartMut.{put_mid}
use Rattle.std.specs.List.{between, flat_map}
use Rattle.std.proofs.lemmas.List.{append-nil, length-take, length-drop, length-append, take-append-drop, take_all, take_at, drop_at, drop-drop, drop_all}
use Rattle.std.proofs.ByRecursion.{All-take, All-drop}
use Rattle.nodes.specs.declared.node.Node.{Node}
use Rattle.nodes.specs.Records.{children}
use Rattle.nodes.specs.Format.{Bytes, Fitting, bytes_of, node_bytes, read_node, values_of, written}
use Rattle.nodes.proofs.Numbers.{length_joined, length_values, values_fit, values_written, written_values}

-- a record from its parts
pub node_read : (bs links offsets : List ℕ) → links ≡ values_of 2 children (between 2 18 bs) → offsets ≡ values_of 4 children (between 18 50 bs) → ◌≡◌ {A = Node} (record { level = get_or bs 0 0; mask = get_or bs 1 0; links = links; offsets = offsets }) (read_node bs)
unfolding read_node
node_read bs links offsets e f = rw (e, f)

-- the parts written over 50 bytes
pub parts_put : (bs links offsets : List ℕ) (level mask : ℕ) → length bs ≡ node_bytes → length links ≡ 16 → length offsets ≡ 32 → put_mid 18 32 (put_mid 2 16 (set (set bs 0 level) 1 mask) links) offsets ≡ level ∷ mask ∷ (links ++ offsets)
parts_put [] links offsets level mask l l2 l4 = absurd (omega arith)
parts_put (x ∷ []) links offsets level mask l l2 l4 = absurd (omega arith)
parts_put (x ∷ y ∷ r) links offsets level mask l l2 l4 =
    rw (take_at links (drop 16 r) 16 l2, drop_at links (drop 16 r) 16 l2, drop-drop 32 16 r, drop_all 48 r (omega arith), append-nil offsets)

pub node_put : (bs ls os : List ℕ) (node : Node) → length bs ≡ node_bytes → length node.links ≡ children → length node.offsets ≡ children → ls ≡ flat_map (bytes_of 2) node.links → os ≡ flat_map (bytes_of 4) node.offsets → put_mid 18 32 (put_mid 2 16 (set (set bs 0 node.level) 1 node.mask) ls) os ≡ written node
unfolding written
node_put bs ls os node l l8 o8 e f =
    parts_put bs ls os node.level node.mask l
    (ap length e ∙ length_joined 2 node.links ∙ omega arith)
    (ap length f ∙ length_joined 4 node.offsets ∙ omega arith)
    ∙ rw (e, f)

-- the first two bytes of a written record
pub heads_fit : (node : Node) (bs : List ℕ) → bs ≡ written node → Bytes bs → (node.level < 256) × (node.mask < 256)
unfolding written
heads_fit node bs e h = let b = subst Bytes e h in (b.0, b.1.0)

-- writing and reading a record gives it back
pub read_written : (node : Node) → Fitting node → read_node (written node) ≡ node
unfolding read_node written
read_written node fit =
    let ls = flat_map (bytes_of 2) node.links in
    let os = flat_map (bytes_of 4) node.offsets in
    let l : length ls ≡ 16 = length_joined 2 node.links ∙ omega (arith, fit.eight_links) in
    let o : length os ≡ 32 = length_joined 4 node.offsets ∙ omega (arith, fit.eight_offsets) in
    rw (take_at ls os 16 l, drop_at ls os 16 l, take_all 32 os (omega arith), values_written 2 children node.links fit.eight_links fit.links_fit, values_written 4 children node.offsets fit.eight_offsets fit.offsets_fit)

-- reading and writing 50 bytes gives them back
pub written_read : (bs : List ℕ) → length bs ≡ node_bytes → Bytes bs → written (read_node bs) ≡ bs
unfolding read_node written
written_read [] l h = absurd (omega arith)
written_read (x ∷ []) l h = absurd (omega arith)
written_read (x ∷ y ∷ r) l h =
    let b = h.1.1 in
    let lt : length (take 16 r) ≡ 2 * children = simp length-take (omega arith) in
    let t : take 32 (drop 16 r) ≡ drop 16 r = take_all 32 (drop 16 r) (simp length-drop (omega arith)) in
    let lo : length (drop 16 r) ≡ 4 * children = simp length-drop (omega arith) in
    rw (t, written_values 2 children (take 16 r) lt (All-take (λ b. b < 256) 16 r b), written_values 4 children (drop 16 r) lo (All-drop (λ b. b < 256) 16 r b), take-append-drop 16 r)

-- every 50 bytes read as a record whose parts fit
pub read_fits : (bs : List ℕ) → length bs ≡ node_bytes → Bytes bs → Fitting (read_node bs)
unfolding read_node
read_fits [] l h = absurd (omega arith)
read_fits (x ∷ []) l h = absurd (omega arith)
read_fits (x ∷ y ∷ r) l h =
    record {
      level_fits = h.0;
      mask_fits = h.1.0;
      eight_links = length_values 2 children (take 16 r);
      links_fit = values_fit 2 children (take 16 r) (All-take (λ b. b < 256) 16 r h.1.1);
      eight_offsets = length_values 4 children (take 32 (drop 16 r));
      offsets_fit = values_fit 4 children (take 32 (drop 16 r)) (All-take (λ b. b < 256) 32 (drop 16 r) (All-drop (λ b. b < 256) 16 r h.1.1));
    }

-- a record whose parts fit is written in 50 bytes
pub length_written : (node : Node) → Fitting node → length (written node) ≡ node_bytes
unfolding written
length_written node fit =
    omega (arith, length-append (flat_map (bytes_of 2) node.links) (flat_map (bytes_of 4) node.offsets), length_joined 2 node.links, length_joined 4 node.offsets, fit.eight_links, fit.eight_offsets)
