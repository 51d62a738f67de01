-- The fields of a line.
use Rattle.std.proofs.Common.{◌≡◌, ℕ, ◌-◌, List, ◌∷◌, length, get_or, take, drop, Some, Option, sym, refl, ap, ◌∙◌, Bor}
use Rattle.std.proofs.lemmas.List.{take_rest}
use Rattle.std.proofs.lemmas.Bool.{eq-eqb}
use Rattle.std.specs.Option.{option_map}
use Rattle.cells.specs.Refusals.{refuses}
use Rattle.text.specs.Pieces.{pieces, cut_pieces}
use Rattle.text.proofs.Cuts.{first_piece}
use Rattle.locate.specs.Lines.{line_answer, first_field}

-- where something follows the first piece, its pieces follow too
pub cut_more : (s : ℕ) (bs p : List ℕ) (o : Option (Bor (List ℕ))) (r : Bor (List ℕ))
    → pieces s bs ≡ cut_pieces s p (option_map (λ x. x.now) o) → o ≡ Some r → pieces s bs ≡ p ∷ pieces s r.now
cut_more s bs p o r e f = e ∙ ap (λ q. cut_pieces s p (option_map (λ x. x.now) q)) f

-- a line of four fields or more is wrong
pub four_fields : (L : ℕ) (bs a b c d e f : List ℕ) → pieces 32 bs ≡ a ∷ pieces 32 b → pieces 32 b ≡ c ∷ pieces 32 d → pieces 32 d ≡ e ∷ pieces 32 f
    → refuses 12 ≡ line_answer L (pieces 32 bs)
four_fields L bs a b c d e f p q r =
    let h = first_piece 32 f in
    sym (ap (line_answer L) (p ∙ ap (λ t. a ∷ t) (q ∙ ap (λ t. c ∷ t) (r ∙ ap (λ t. e ∷ t) h.2))))

-- a first line with its letter and its space
pub first_line : (line : List ℕ) → get_or line 0 0 ≡ 76 → get_or line 1 0 ≡ 32 → Some (take (length line - 2) (drop 2 line)) ≡ first_field line
first_line line e f = rw (take_rest line 2, eq-eqb (get_or line 0 0) 76 e, eq-eqb (get_or line 1 0) 32 f) refl
