-- What the blocks of a palette store spell.
use Rattle.std.specs.Prelude.{◌≡◌, ℕ, ◌/◌, ◌%◌, ◌<◌, ◌≤◌, List, map, take, replicate, slice_index, slice_index_or, refl}
use Rattle.std.specs.List.{flat_map}
use Rattle.tags.specs.declared.palette.block.Block.{Block}
use Rattle.tags.specs.Palettes.{block_words, palette_places}

-- a block of zeros
abbrev pub blank : Block
blank = record { palette = replicate palette_places 0; indices = replicate block_words 0; places = refl; spots = refl }

-- the place that an index names: any byte names one of the palette's places
abbrev pub place_of : ℕ → ℕ
place_of index = index % palette_places

-- the word that an index stands for
abbrev pub word_at : List ℕ → ℕ → ℕ
word_at palette index = slice_index palette (place_of index)

-- the words that a block spells, one for each index
abbrev pub spelled : Block → List ℕ
spelled b = map (word_at b.palette) b.indices

-- the store's words: what the blocks spell, as far as the count
abbrev pub palette_words : List Block → ℕ → List ℕ
palette_words blocks count = take count (flat_map spelled blocks)

-- index i names the lowest place that has its word
abbrev pub NamesLowest : Block → ℕ → Type 0
NamesLowest b i =
    (p : ℕ) → slice_index b.palette p ≡ word_at b.palette (slice_index b.indices i) → place_of (slice_index b.indices i) ≤ p

-- every index in use does, so no word takes two places of a palette
abbrev pub Tidy : List Block → ℕ → Type 0
Tidy blocks count = (n : ℕ) → n < count → NamesLowest (slice_index_or blocks (n / block_words) blank) (n % block_words)
