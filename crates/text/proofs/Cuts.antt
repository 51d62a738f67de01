-- A text that is cut at its first separator.
use Rattle.std.proofs.Common.{◌≡◌, ℕ, zero, suc, ◌<◌, true, false, cond, eqb, List, [], ◌∷◌, take, drop, Some, refl, ap, arith}
use Rattle.std.specs.List.{slice_get}
use Rattle.std.proofs.lemmas.Bool.{eq-eqb, ne_eqb}
use Rattle.text.specs.Pieces.{pieces, widened}

some_same : (x y : ℕ) → Some x ≡ Some y → x ≡ y
some_same x y e = cc

-- without a separator the text is one piece
pub pieces_none : (s : ℕ) (bs : List ℕ) → ((k : ℕ) → slice_get bs k ≡ Some s → ⊥) → pieces s bs ≡ bs ∷ []
unfolding pieces
pieces_none s [] h = refl
pieces_none s (b ∷ bs) h =
    let e : eqb b s ≡ false = ne_eqb b s (λ p. h 0 (ap Some p)) in
    rw (e, pieces_none s bs (λ k p. h (suc k) p)) refl

-- with one, the first piece ends before it
pub pieces_cut : (s : ℕ) (bs : List ℕ) (n : ℕ) → slice_get bs n ≡ Some s → ((k : ℕ) → k < n → slice_get bs k ≡ Some s → ⊥)
    → pieces s bs ≡ take n bs ∷ pieces s (drop (suc n) bs)
unfolding pieces
pieces_cut s [] n e h = let z : ◌≡◌ {A = ℕ} 0 1 = cc in absurd (omega arith)
pieces_cut s (b ∷ bs) zero e h = rw (eq-eqb b s (some_same b s e)) refl
pieces_cut s (b ∷ bs) (suc n) e h =
    let f : eqb b s ≡ false = ne_eqb b s (λ p. h 0 (omega arith) (ap Some p)) in
    rw (f, pieces_cut s bs n e (λ k l p. h (suc k) (omega arith) p)) refl

-- there is always a first piece
pub first_piece : (s : ℕ) (bs : List ℕ) → (p : List ℕ) × (ps : List (List ℕ)) × (pieces s bs ≡ p ∷ ps)
unfolding pieces
first_piece s [] = ([], [], refl)
first_piece s (b ∷ bs) =
    let f = first_piece s bs in
    elim (eqb b s) as (λ t. (p : List ℕ) × (ps : List (List ℕ)) × (cond t ([] ∷ pieces s bs) (widened b (pieces s bs)) ≡ p ∷ ps))
    [ true ↦ ([], pieces s bs, refl) | false ↦ (b ∷ f.0, f.1, ap (widened b) f.2) ]
