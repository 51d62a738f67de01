-- The palette store's rule: few different words in each block.
use Rattle.std.specs.Prelude.{◌≡◌, ℕ, zero, suc, ◌*◌, ◌≤◌, min, Bool, true, ◌&&◌, List, [], length, take, drop, nat_eq, nat_le, refl}
use Rattle.std.specs.Set.{is_member, distinct_count}
use Rattle.std.proofs.Common.{ap, ◌∙◌, arith, leb-true, le-leb}
use Rattle.std.proofs.Math.Seq.{drop-nil}
use Rattle.std.proofs.lemmas.Bool.{and_from, and_parts}
use Rattle.tags.specs.Stores.{most_words}

-- the words of a block
abbrev pub block_words : ℕ
block_words = 64

-- the places of a block's palette: so many different words it can hold
abbrev pub palette_places : ℕ
palette_places = 16

-- whether a word stands in a list
abbrev pub is_in : ℕ → List ℕ → Bool
is_in w ws = is_member nat_eq ws w

-- how many different words a list has: each counts once
abbrev pub distinct : List ℕ → ℕ
distinct = distinct_count nat_eq

-- the words of block k, counted from word 0, 64, 128 and so on
abbrev pub words_of_block : ℕ → List ℕ → List ℕ
words_of_block k words = take block_words (drop (k * block_words) words)

-- each of the first blocks has no more different words than a palette has places
abbrev pub few_each : ℕ → List ℕ → Bool
few_each zero words = true
few_each (suc k) words = nat_le (distinct (words_of_block k words)) palette_places && few_each k words

-- the rule: as many words as the blocks hold, none above the most, and few different ones in each block
abbrev pub palette_admits : ℕ → List ℕ → Bool
palette_admits blocks words = nat_le (length words) (min (blocks * block_words) most_words) && few_each blocks words

few_none : (blocks : ℕ) → few_each blocks [] ≡ true
few_none zero = refl
few_none (suc k) =
    ap (λ rest. nat_le (distinct (take block_words rest)) palette_places && few_each k []) (drop-nil (k * block_words)) ∙ few_none k

-- the empty list is admitted
pub palette_none : (blocks : ℕ) → palette_admits blocks [] ≡ true
palette_none blocks = and_from _ _ (le-leb _ _ (omega arith)) (few_none blocks)

-- no list with more than the most words is
pub palette_most : (blocks : ℕ) (words : List ℕ) → palette_admits blocks words ≡ true → length words ≤ most_words
palette_most blocks words e =
    let short = (and_parts (nat_le (length words) (min (blocks * block_words) most_words)) (few_each blocks words) e).0 in
    omega (arith, leb-true (length words) (min (blocks * block_words) most_words) short)
