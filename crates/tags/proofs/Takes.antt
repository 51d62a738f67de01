-- When the flat store takes a word.
use Rattle.std.proofs.Common.{◌≡◌, ℕ, ◌<◌, ◌≤◌, min, true, false, ◌⊎◌, List, length, take, arith, length-set}
use Rattle.std.proofs.lemmas.List.{length_push, length-take-le}
use Rattle.std.proofs.lemmas.Bool.{le-leb, lt-leb, lt-ltb, le-ltb, and_from, and_left}
use Rattle.tags.specs.Stores.{most_words, can_add, can_change}
use Rattle.tags.specs.Flats.{flat_admits, flat_words}

module _ (xs : List ℕ) (c : ℕ) (fits : c ≤ min (length xs) most_words) where
  flat_count : length (flat_words xs c) ≡ c
  flat_count = length-take-le c xs (omega arith)

  pub flat_adds : (w : ℕ) → c < length xs → c < most_words → can_add (flat_admits (length xs)) (flat_words xs c) w ≡ true
  flat_adds w room few =
      let long = flat_count in
      le-leb _ _ (omega (arith, length_push (take c xs) w))

  pub flat_full : (w : ℕ) → (length xs ≤ c) ⊎ (most_words ≤ c) → can_add (flat_admits (length xs)) (flat_words xs c) w ≡ false
  flat_full w full =
      let long = flat_count in
      lt-leb _ _ (omega (arith, length_push (take c xs) w))

  pub flat_changes : (n w : ℕ) → n < c → can_change (flat_admits (length xs)) (flat_words xs c) n w ≡ true
  flat_changes n w h =
      let long = flat_count in
      and_from _ _ (lt-ltb n (length (flat_words xs c)) (omega arith)) (le-leb _ _ (omega (arith, length-set (take c xs) n w)))

  pub flat_past : (n w : ℕ) → c ≤ n → can_change (flat_admits (length xs)) (flat_words xs c) n w ≡ false
  flat_past n w h = let long = flat_count in and_left _ _ (le-ltb n (length (flat_words xs c)) (omega arith))
