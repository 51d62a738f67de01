-- The flat store: its rule and its words.
use Rattle.std.specs.Prelude.{◌≡◌, ℕ, ◌≤◌, min, Bool, true, List, [], length, take, nat_le}
use Rattle.std.proofs.Common.{arith, leb-true, le-leb, length-take}
use Rattle.tags.specs.Stores.{most_words}

-- the rule: as many words as there are numbers, and none above the most
abbrev pub flat_admits : ℕ → List ℕ → Bool
flat_admits numbers words = nat_le (length words) (min numbers most_words)

-- the words: the first of the numbers, as many as are in use
abbrev pub flat_words : List ℕ → ℕ → List ℕ
flat_words numbers count = take count numbers

-- the empty list is admitted
pub flat_none : (numbers : ℕ) → flat_admits numbers [] ≡ true
flat_none numbers = le-leb _ _ (omega arith)

-- no list with more than the most words is
pub flat_most : (numbers : ℕ) (words : List ℕ) → flat_admits numbers words ≡ true → length words ≤ most_words
flat_most numbers words e = omega (arith, leb-true _ _ e)

-- the words in use are admitted
pub flat_held : (numbers : List ℕ) (count : ℕ) → count ≤ min (length numbers) most_words → flat_admits (length numbers) (flat_words numbers count) ≡ true
flat_held numbers count fits = le-leb _ _ (omega (arith, length-take count numbers))
