-- A text in pieces.
use Rattle.std.specs.Prelude.{ℕ, cond, List, [], ◌∷◌, Some, None, Option, ◌==◌}

-- one more byte in front of the first piece
abbrev pub widened : ℕ → List (List ℕ) → List (List ℕ)
widened b [] = (b ∷ []) ∷ []
widened b (p ∷ ps) = (b ∷ p) ∷ ps

-- what stands before, between and behind the separators: always one piece more than there are separators
unfoldable pub pieces : ℕ → List ℕ → List (List ℕ)
pieces s [] = [] ∷ []
pieces s (b ∷ bs) = cond (b == s) ([] ∷ pieces s bs) (widened b (pieces s bs))

-- the pieces of a text that is cut once: the first, and those of what follows
abbrev pub cut_pieces : ℕ → List ℕ → Option (List ℕ) → List (List ℕ)
cut_pieces s p None = p ∷ []
cut_pieces s p (Some rest) = p ∷ pieces s rest
