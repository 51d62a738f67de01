-- The words that blocks spell, by their numbers.
use Rattle.std.proofs.Common.{◌≡◌, ℕ, zero, suc, ◌+◌, ◌-◌, ◌*◌, ◌/◌, ◌%◌, ◌<◌, ◌≤◌, min, true, false, List, [], ◌∷◌, length, get_or, drop, sym, refl, ap, ◌∙◌, ⊎_elim, arith, length-append, length-drop, length-take}
use lib.ListN.{length-map}
use Rattle.std.specs.List.{flat_map}
use Rattle.std.proofs.lemmas.List.{get_or_append_left, get_or-append_right, get_or-take, get_or-drop, get_or-map, length-take-le}
use Rattle.std.proofs.lemmas.Nat.{mod_below}
use Rattle.std.proofs.lemmas.Bool.{cases_lt, cases_eq, le-leb, lt-leb, and_from, and_left, and_right}
use Rattle.tags.specs.declared.palette.block.Block.{Block}
use Rattle.tags.specs.Stores.{most_words}
use Rattle.tags.specs.Palettes.{block_words, palette_places, is_in, distinct, words_of_block, few_each, palette_admits}
use Rattle.tags.specs.Blocks.{blank, place_of, word_at, spelled, palette_words}
use Rattle.tags.proofs.Distinct.{is_in_at, is_in_place, distinct_within, distinct_length}

pub spelled_long : (b : Block) → length (spelled b) ≡ block_words
spelled_long b = length-map b.indices (word_at b.palette) ∙ b.spots

pub spelled_at : (b : Block) (i : ℕ) → i < block_words → get_or (spelled b) i 0 ≡ word_at b.palette (get_or b.indices i 0)
spelled_at b i h = let long = b.spots in get_or-map (word_at b.palette) b.indices i 0 0 (omega arith)

-- the word that an index stands for is in the palette
pub in_palette : (b : Block) (index : ℕ) → is_in (word_at b.palette index) b.palette ≡ true
in_palette b index =
    let long = b.places in is_in_at b.palette (place_of index) (omega (arith, mod_below index palette_places (omega arith)))

-- the word that blocks spell at number n
abbrev pub spelt : List Block → ℕ → ℕ
spelt blocks n = get_or (spelled (get_or blocks (n / block_words) blank)) (n % block_words) 0

pub spelt_at : (blocks : List Block) (k j : ℕ) → j < block_words → spelt blocks (k * block_words + j) ≡ get_or (spelled (get_or blocks k blank)) j 0
spelt_at blocks k j low =
    let quotient : (k * block_words + j) / block_words ≡ k = omega arith in
    let rest : (k * block_words + j) % block_words ≡ j = omega arith in
    rw quotient (rw rest refl)

pub all_long : (blocks : List Block) → length (flat_map spelled blocks) ≡ length blocks * block_words
all_long [] = refl
all_long (b ∷ bs) = let rest = all_long bs in omega (arith, length-append (spelled b) (flat_map spelled bs), spelled_long b)

pub all_at : (blocks : List Block) (n : ℕ) → n < length blocks * block_words → get_or (flat_map spelled blocks) n 0 ≡ spelt blocks n
all_at [] n h = absurd (omega arith)
all_at (b ∷ bs) n h =
    let long = spelled_long b in
    ⊎_elim
    (λ first.
    let quotient : n / block_words ≡ 0 = omega arith in
    let rest : n % block_words ≡ n = omega arith in
    rw quotient (rw rest (get_or_append_left (spelled b) (flat_map spelled bs) 0 n (omega arith))))
    (λ later.
    let quotient : n / block_words ≡ suc ((n - block_words) / block_words) = omega arith in
    let rest : n % block_words ≡ (n - block_words) % block_words = omega arith in
    let below = all_at bs (n - block_words) (omega arith) in
    rw quotient (rw rest (get_or-append_right (spelled b) (flat_map spelled bs) block_words n 0 long later ∙ below)))
    (cases_lt n block_words)

module _ (blocks : List Block) (count : ℕ) (room : count ≤ length blocks * block_words) where
  pub words_long : length (palette_words blocks count) ≡ count
  words_long = length-take-le count (flat_map spelled blocks) (omega (arith, all_long blocks))

  pub words_at : (n : ℕ) → n < count → get_or (palette_words blocks count) n 0 ≡ spelt blocks n
  words_at n h = get_or-take count (flat_map spelled blocks) n 0 h ∙ all_at blocks n (omega arith)

-- a block's words, by their numbers in the whole list
module _ (words : List ℕ) (k : ℕ) where
  pub block_long : length (words_of_block k words) ≡ min block_words (length words - k * block_words)
  block_long = length-take block_words (drop (k * block_words) words) ∙ ap (min block_words) (length-drop (k * block_words) words)

  pub block_at : (i : ℕ) → i < block_words → get_or (words_of_block k words) i 0 ≡ get_or words (k * block_words + i) 0
  block_at i h = get_or-take block_words (drop (k * block_words) words) i 0 h ∙ get_or-drop (k * block_words) words i 0

  pub in_block : (n : ℕ) → n < length words → n / block_words ≡ k → is_in (get_or words n 0) (words_of_block k words) ≡ true
  in_block n low same =
      let long = block_long in
      let whole : k * block_words + n % block_words ≡ n = omega arith in
      let there : get_or (words_of_block k words) (n % block_words) 0 ≡ get_or words n 0
      = block_at (n % block_words) (omega arith) ∙ ap (λ m. get_or words m 0) whole in
      ap (λ v. is_in v (words_of_block k words)) (sym there) ∙ is_in_at (words_of_block k words) (n % block_words) (omega arith)

-- a block with too many different words is not admitted
pub too_many : (words : List ℕ) (k blocks : ℕ) → k < blocks → palette_places < distinct (words_of_block k words) → few_each blocks words ≡ false
too_many words k zero low many = absurd (omega arith)
too_many words k (suc blocks) low many =
    ⊎_elim
    (λ e. and_left _ _ (lt-leb _ _ (rw e at many)))
    (λ ne. and_right _ _ (too_many words k blocks (omega arith) many))
    (cases_eq k blocks)

-- what blocks spell has few different words in each block
module _ (blocks : List Block) (count : ℕ) (room : count ≤ length blocks * block_words) where
  few_at : (k : ℕ) → distinct (words_of_block k (palette_words blocks count)) ≤ palette_places
  few_at k =
      let words = palette_words blocks count in
      let b = get_or blocks k blank in
      let long = words_long blocks count room in
      let part = block_long words k in
      let within = distinct_within (words_of_block k words) b.palette (λ w h.
      let found = is_in_place w (words_of_block k words) h in
      let i = found.0 in
      let low = found.1 in
      let spell : w ≡ word_at b.palette (get_or b.indices i 0)
      = sym found.2 ∙ block_at words k i (omega arith) ∙ words_at blocks count room (k * block_words + i) (omega arith)
      ∙ spelt_at blocks k i (omega arith) ∙ spelled_at b i (omega arith) in
      ap (λ v. is_in v b.palette) spell ∙ in_palette b (get_or b.indices i 0)) in
      omega (arith, distinct_length b.palette, b.places)

  few_each_lem : (n : ℕ) → few_each n (palette_words blocks count) ≡ true
  few_each_lem zero = refl
  few_each_lem (suc n) = and_from _ _ (le-leb _ _ (few_at n)) (few_each_lem n)

  pub palette_held : count ≤ most_words → palette_admits (length blocks) (palette_words blocks count) ≡ true
  palette_held few = let long = words_long blocks count room in and_from _ _ (le-leb _ _ (omega arith)) (few_each_lem (length blocks))
