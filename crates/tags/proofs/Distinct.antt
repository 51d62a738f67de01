-- How many different words a list has.
use Rattle.std.proofs.Common.{◌≡◌, ℕ, ◌+◌, ◌<◌, ◌≤◌, true, false, cond, ◌||◌, List, [], ◌∷◌, length, get_or, sym, refl, ap, ◌∙◌, subst, ⊎_elim, arith}
use Rattle.std.specs.Prelude.{nat_eq}
use Rattle.std.specs.List.{AllByRecursion, IsDistinct}
use Rattle.std.specs.Set.{unique_keys}
use Rattle.std.proofs.lemmas.List.{get_or_default}
use Rattle.std.proofs.lemmas.List.Folds.{list_any_at}
use Rattle.std.proofs.lemmas.Cmp.{nat_eq_equiv}
use Rattle.std.proofs.lemmas.Map.Made.{is_member-Decides, length-le_from_is_member, distinct_count-le, distinct_count-from_IsDistinct, IsDistinct-from_AllPairs}
use Rattle.std.proofs.lemmas.Bool.Decides.{Decides-eqb}
use Rattle.std.proofs.lemmas.Bool.{eq-eqb, cases_eq, cases_Bool, or_parts, ne_eqb, cond-true, cond-false}
use Rattle.tags.specs.Palettes.{is_in, distinct}

-- the word at a place is in the list, and a word in the list has a place
pub is_in_at : (ws : List ℕ) (k : ℕ) → k < length ws → is_in (get_or ws k 0) ws ≡ true
is_in_at ws k h = list_any_at (nat_eq (get_or ws k 0)) ws k 0 h (eq-eqb _ _ refl)

pub is_in_place : (w : ℕ) (ws : List ℕ) → is_in w ws ≡ true → (k : ℕ) × (k < length ws) × (get_or ws k 0 ≡ w)
is_in_place w ws e =
    let found = (is_member-Decides Decides-eqb ws w).0 e in
    (found.0, found.1, get_or_default ws found.0 0 w found.1 ∙ found.2)

pub distinct_new : (w : ℕ) (ws : List ℕ) → is_in w ws ≡ false → distinct (w ∷ ws) ≡ distinct ws + 1
distinct_new w ws e = ap length (cond-false _ _ _ e) ∙ omega arith

-- a list without repeats has the same words
unique_in : (w : ℕ) (ws : List ℕ) → is_in w (unique_keys nat_eq ws) ≡ is_in w ws
unique_in w [] = refl
unique_in w (x ∷ xs) =
    let rest = unique_in w xs in
    ⊎_elim
    (λ again. ap (is_in w) (cond-true _ _ _ again) ∙ rest
    ∙ ⊎_elim (λ same. ap (λ v. is_in v xs) same ∙ again ∙ sym (ap (λ t. t || is_in w xs) (eq-eqb w x same)))
    (λ other. sym (ap (λ t. t || is_in w xs) (ne_eqb w x other))) (cases_eq w x))
    (λ new. ap (is_in w) (cond-false _ _ _ new) ∙ ap (λ t. nat_eq w x || t) rest)
    (cases_Bool (is_in x xs))

absent : (w : ℕ) (ws : List ℕ) → is_in w ws ≡ false → AllByRecursion (λ x. nat_eq w x ≡ false) ws
absent w [] e = tt
absent w (x ∷ xs) e = let parts = or_parts (nat_eq w x) (is_in w xs) e in (parts.0, absent w xs parts.1)

unique_apart : (ws : List ℕ) → IsDistinct nat_eq (unique_keys nat_eq ws)
unfolding IsDistinct
unique_apart [] = tt
unique_apart (x ∷ xs) =
    ⊎_elim
    (λ again. subst (IsDistinct nat_eq) (sym (cond-true _ _ _ again)) (unique_apart xs))
    (λ new. subst (IsDistinct nat_eq) (sym (cond-false _ _ _ new)) (absent x _ (unique_in x xs ∙ new), unique_apart xs))
    (cases_Bool (is_in x xs))

-- a list whose words all stand in another has no more different words
pub distinct_within : (xs ys : List ℕ) → ((w : ℕ) → is_in w xs ≡ true → is_in w ys ≡ true) → distinct xs ≤ distinct ys
distinct_within xs ys sub =
    length-le_from_is_member nat_eq_equiv (unique_keys nat_eq xs) (unique_keys nat_eq ys) (unique_apart xs)
    (λ w h. unique_in w ys ∙ sub w (sym (unique_in w xs) ∙ h))

pub distinct_length : (xs : List ℕ) → distinct xs ≤ length xs
distinct_length = distinct_count-le nat_eq

-- no word stands at two places
abbrev pub Apart : List ℕ → Type 0
Apart xs = (j k : ℕ) → j < length xs → k < length xs → get_or xs j 0 ≡ get_or xs k 0 → j ≡ k

pub distinct_apart : (xs : List ℕ) → Apart xs → distinct xs ≡ length xs
distinct_apart xs apart =
    distinct_count-from_IsDistinct nat_eq_equiv xs (IsDistinct-from_AllPairs Decides-eqb xs (λ j k d before low e.
    let same = apart j k (omega arith) low (get_or_default xs j 0 d (omega arith) ∙ e ∙ get_or_default xs k d 0 low) in
    omega arith))

-- a word that stands there already does not count again
pub distinct_again : (w : ℕ) (ws : List ℕ) → is_in w ws ≡ true → distinct (w ∷ ws) ≡ distinct ws
distinct_again w ws e = ap length (cond-true _ _ _ e)

-- the number of different words, one word at a time
pub distinct_step : (w : ℕ) (ws : List ℕ) → distinct (w ∷ ws) ≡ distinct ws + cond (is_in w ws) 0 1
distinct_step w ws =
    ⊎_elim
    (λ again. omega (arith, distinct_again w ws again, cond-true {A = ℕ} (is_in w ws) 0 1 again))
    (λ new. omega (arith, distinct_new w ws new, cond-false {A = ℕ} (is_in w ws) 0 1 new))
    (cases_Bool (is_in w ws))
