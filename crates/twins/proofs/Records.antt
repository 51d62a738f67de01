-- Lists compared place by place.
use Rattle.std.specs.Prelude.{◌≡◌, ℕ, ◌<◌, Bool, true, false, Decides, List, length, MatchBool}
use Rattle.std.specs.List.{AllWithin, HoldsAt, range_with_len}
use Rattle.std.proofs.Common.{get_or, refl, ap, arith}
use Rattle.std.proofs.lemmas.List.{ext_get_or}
use Rattle.std.proofs.lemmas.List.FromFn.{length-range_with_len, get_or-range_with_len}

-- lists of one length are equal if and only if no number below it tells them apart
pub same_lists : {X : Type 0} (d : X) (xs ys : List X) → length xs ≡ length ys → (r : Bool)
    → MatchBool r
    (AllWithin (λ n. get_or xs n d ≡ get_or ys n d) (range_with_len 0 (length xs)) 0 (length (range_with_len 0 (length xs))))
    ((k : ℕ) × (k < length (range_with_len 0 (length xs))) × HoldsAt (λ n. get_or xs n d ≡ get_or ys n d → ⊥) (range_with_len 0 (length xs)) k)
    → Decides r (xs ≡ ys)
same_lists d xs ys long true all = (
  λ _. ext_get_or d xs ys long (λ i h.
      let at : get_or (range_with_len 0 (length xs)) i 0 ≡ i = omega (arith, get_or-range_with_len 0 (length xs) i 0 h) in
      let inside : i < length (range_with_len 0 (length xs)) = omega (arith, length-range_with_len 0 (length xs)) in
      rw at at (all i 0 (omega arith) inside)),
  λ _. refl,
)
same_lists d xs ys long false (k, inside, differs) =
    ((λ z. absurd (cc)), λ e. absurd (differs 0 (ap (λ l. get_or l (get_or (range_with_len 0 (length xs)) k 0) d) e)))
