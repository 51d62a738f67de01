-- What a tag store takes: a rule says which lists of words it admits.
use Rattle.std.specs.Prelude.{◌≡◌, ℕ, ◌≤◌, Bool, true, ◌&&◌, List, [], ◌∷◌, ◌++◌, length, nat_lt, slice_set}

-- the most words that any store admits
abbrev pub most_words : ℕ
most_words = 16777216

-- what holds of every rule, and of the list that a store holds
pub record StoreLaws {S : Type 0} (words : S → List ℕ) (admits : S → List ℕ → Bool) : Type 0 where
  -- the empty list is admitted
  pub none : (s : S) → admits s [] ≡ true
  -- no list with more than the most words is
  pub most : (s : S) (ws : List ℕ) → admits s ws ≡ true → length ws ≤ most_words
  -- the list that a store holds is admitted
  pub held : (s : S) → admits s (words s) ≡ true

-- a word can be added if the list with it at the end is admitted
abbrev pub can_add : (List ℕ → Bool) → List ℕ → ℕ → Bool
can_add admits words w = admits (words ++ w ∷ [])

-- word n can be changed if it is there and the list after the change is admitted
abbrev pub can_change : (List ℕ → Bool) → List ℕ → ℕ → ℕ → Bool
can_change admits words n w = nat_lt n (length words) && admits (slice_set words n w)
