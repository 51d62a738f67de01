-- The written form of a record: 50 bytes, the level, the mask, eight links of 2 bytes and eight offsets of 4.
use Rattle.std.specs.Prelude.{◌≡◌, ℕ, zero, suc, ◌+◌, ◌*◌, ◌/◌, ◌%◌, ◌^◌, ◌<◌, List, [], ◌∷◌, ◌++◌, length, take, drop, slice_index, refl}
use Rattle.std.proofs.Common.{ap}
use Rattle.std.specs.List.{between, flat_map, AllByRecursion}
use Rattle.nodes.specs.declared.node.Node.{Node}
use Rattle.nodes.specs.Records.{children}

-- how many bytes a written record takes
abbrev pub node_bytes : ℕ
node_bytes = 50

-- numbers that each fit one byte
abbrev pub Bytes : List ℕ → Type 0
Bytes = AllByRecursion (λ b. b < 256)

-- the bytes of a number, the low byte first, as many as the width says
unfoldable pub bytes_of : ℕ → ℕ → List ℕ
bytes_of zero n = []
bytes_of (suc width) n = n % 256 ∷ bytes_of width (n / 256)

-- the number that bytes write, the low byte first
unfoldable pub value_of : List ℕ → ℕ
value_of [] = 0
value_of (b ∷ bytes) = b + 256 * value_of bytes

-- several numbers of one width, which stand one behind another
unfoldable pub values_of : ℕ → ℕ → List ℕ → List ℕ
values_of width zero bytes = []
values_of width (suc count) bytes = value_of (take width bytes) ∷ values_of width count (drop width bytes)

-- a record as bytes
unfoldable pub written : Node → List ℕ
written node = node.level ∷ node.mask ∷ (flat_map (bytes_of 2) node.links ++ flat_map (bytes_of 4) node.offsets)

-- 50 bytes as a record
unfoldable pub read_node : List ℕ → Node
read_node bytes =
    record {
      level = slice_index bytes 0;
      mask = slice_index bytes 1;
      links = values_of 2 children (between 2 18 bytes);
      offsets = values_of 4 children (between 18 50 bytes);
    }

-- the first records of bytes, 50 bytes each
unfoldable pub read_nodes : ℕ → List ℕ → List Node
read_nodes zero bytes = []
read_nodes (suc count) bytes = read_node (take node_bytes bytes) ∷ read_nodes count (drop node_bytes bytes)

-- a record whose parts have their widths: every record that the code can hold
pub record Fitting (node : Node) : Type 0 where
  pub level_fits : node.level < 256
  pub mask_fits : node.mask < 256
  pub eight_links : length node.links ≡ children
  pub links_fit : AllByRecursion (λ link. link < 2 ^ 16) node.links
  pub eight_offsets : length node.offsets ≡ children
  pub offsets_fit : AllByRecursion (λ offset. offset < 2 ^ 32) node.offsets

-- there are as many records as were asked for
pub length_nodes : (count : ℕ) (bytes : List ℕ) → length (read_nodes count bytes) ≡ count
unfolding read_nodes
length_nodes zero bytes = refl
length_nodes (suc count) bytes = ap suc (length_nodes count (drop node_bytes bytes))
