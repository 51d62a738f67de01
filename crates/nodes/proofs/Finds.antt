-- The search in the tail of a list, told of the whole list.
use Rattle.std.proofs.Common.{◌≡◌, ℕ, zero, suc, ◌+◌, ◌-◌, ◌≤◌, List, [], ◌∷◌, drop, Some, None, Option, subst, sym, refl, ap, ◌∙◌, zero-add, arith}
use Rattle.std.specs.List.{slice_get}
use Rattle.std.specs.Option.{option_map}
use Rattle.cells.specs.Rows.{Lowest}
use Rattle.nodes.specs.Finding.{LowestFrom}

pub nth_drop : {X : Type 0} (k : ℕ) (xs : List X) (i : ℕ) → slice_get (drop k xs) i ≡ slice_get xs (k + i)
nth_drop zero xs i = ap (slice_get xs) (sym (zero-add i))
nth_drop (suc k) [] i = refl
nth_drop (suc k) (x ∷ xs) i = let e : suc (k + i) ≡ suc k + i = omega arith in nth_drop k xs i ∙ ap (slice_get (x ∷ xs)) e

-- an entry of the tail
tail_entry : {X : Type 0} (from : ℕ) (xs : List X) (x : X) (k : ℕ) → from ≤ k → slice_get xs k ≡ Some x → slice_get (drop from xs) (k - from) ≡ Some x
tail_entry from xs x k le e = let s : from + (k - from) ≡ k = omega arith in nth_drop from xs (k - from) ∙ ap (slice_get xs) s ∙ e

pub lowest_none : {X : Type 0} (from : ℕ) (xs : List X) (x : X) → Lowest (drop from xs) x None → LowestFrom from xs x None
lowest_none from xs x h = λ k le e. h (k - from) (tail_entry from xs x k le e)

pub lowest_some : {X : Type 0} (from : ℕ) (xs : List X) (x : X) (n : ℕ) → Lowest (drop from xs) x (Some n) → LowestFrom from xs x (Some (from + n))
lowest_some from xs x n h =
    (omega arith, sym (nth_drop from xs n) ∙ h.0, λ k le lt e. h.1 (k - from) (omega arith) (tail_entry from xs x k le e))

-- what the search in the tail answers, with the numbers of the whole list
pub lowest_from : {X : Type 0} (from : ℕ) (xs : List X) (x : X) (o r : Option ℕ) → Lowest (drop from xs) x o → r ≡ option_map (λ n. from + n) o → LowestFrom from xs x r
lowest_from from xs x None r h e = subst (LowestFrom from xs x) (sym e) (lowest_none from xs x h)
lowest_from from xs x (Some n) r h e = subst (LowestFrom from xs x) (sym e) (lowest_some from xs x n h)
