-- Which places of a palette other indices name, and the free place that a search over marks finds.
use Rattle.std.proofs.Common.{◌≡◌, ℕ, zero, suc, ◌+◌, ◌<◌, Bool, true, false, not, ◌&&◌, ◌||◌, eqb, List, [], ◌∷◌, length, ◌≢◌, get_or, Some, None, Option, sym, refl, ap, ◌∙◌, subst, ⊎_elim, add-one, arith, MatchOption}
use Rattle.std.specs.List.{slice_get}
use Rattle.std.proofs.lemmas.Option.{slice_get-get_or, slice_get_within}
use Rattle.std.proofs.lemmas.Bool.{eq-eqb, ne_eqb, and_from, and_left, and_right, or_left, or_right, cases_eq, not_from_true, not_from_false, and_parts, or_cases, eqb-true, eqb-false, not-true, both_ways, or_from, cases_lt}
use Rattle.cells.specs.Rows.{Lowest}
use Rattle.tags.specs.declared.palette.block.Block.{Block}
use Rattle.tags.specs.Palettes.{palette_places, is_in}
use Rattle.tags.specs.Blocks.{place_of}
use Rattle.tags.specs.Spots.{taken, FreePlace, Spot, Full}

module _ (indices : List ℕ) (i p : ℕ) where
  -- an index that names the place takes it
  pub taken_from : (j n : ℕ) → j < n → j ≢ i → place_of (get_or indices j 0) ≡ p → taken indices i p n ≡ true
  taken_from j zero low other same = absurd (omega arith)
  taken_from j (suc n) low other same =
      ⊎_elim
      (λ e. rw (← e) (or_left _ _ (and_from _ _ (not_from_false _ (ne_eqb j i other)) (eq-eqb _ p same))))
      (λ ne. or_right _ _ (taken_from j n (omega arith) other same))
      (cases_eq j n)

  -- and a place that is taken is named by an index
  pub taken_by : (n : ℕ) → taken indices i p n ≡ true → (j : ℕ) × (j < n) × (j ≢ i) × (place_of (get_or indices j 0) ≡ p)
  taken_by zero e = absurd (both_ways false refl e)
  taken_by (suc n) e =
      ⊎_elim
      (λ here. let both = and_parts (not (eqb n i)) _ here in
      (n, omega arith, eqb-false n i (not-true _ both.0), eqb-true _ p both.1))
      (λ below. let found = taken_by n below in
      let low = found.1 in
      (found.0, omega arith, found.2, found.3))
      (or_cases _ _ e)

-- marks stand at the places that other indices name
abbrev pub Marked : List Bool → List ℕ → ℕ → ℕ → Type 0
Marked marks indices i n = (length marks ≡ palette_places) × ((p : ℕ) → p < palette_places → get_or marks p false ≡ taken indices i p n)

-- a word that is not in a list stands at no place of it
missing_in : (w : ℕ) (xs : List ℕ) → ((k : ℕ) → slice_get xs k ≡ Some w → ⊥) → is_in w xs ≡ false
missing_in w [] none = refl
missing_in w (x ∷ xs) none =
    or_from _ _ (ne_eqb w x (λ e. none 0 (ap (λ y. Some y) (sym e)))) (missing_in w xs (λ k e. none (suc k) e))

module _ (b : Block) (used i w : ℕ) where
  pub spot_found : (p : ℕ) → Lowest b.palette w (Some p) → Spot b used i w p
  spot_found p found =
      let inside = slice_get_within b.palette p w found.0 in
      let long = b.places in
      let there : Some (get_or b.palette p 0) ≡ Some w = sym (slice_get-get_or b.palette p 0 inside) ∙ found.0 in
      let has : get_or b.palette p 0 ≡ w = cc in
      record {
        place = omega arith;
        free = λ apart. absurd (apart has);
        new = λ apart. absurd (apart has);
        lowest = λ q low same.
            ⊎_elim (λ before. absurd (found.1 q before (slice_get-get_or b.palette q 0 (omega arith) ∙ ap (λ x. Some x) same))) (λ h. h) (cases_lt q p);
      }

  pub spot_free : Lowest b.palette w None → (r : Option ℕ) → FreePlace b.indices i used r → MatchOption r (Full b used i w) (Spot b used i w)
  spot_free none None full = record { missing = missing_in w b.palette none; named = full }
  spot_free none (Some p) room =
      let long = b.places in
      record {
        place = room.0;
        free = λ _. room.1;
        new = λ _. missing_in w b.palette none;
        lowest = λ q low same. absurd (none q (slice_get-get_or b.palette q 0 (omega arith) ∙ ap (λ x. Some x) same));
      }

  -- the place of a word that was found, else the free place
  pub place_found : (s : Option ℕ) → Lowest b.palette w s → (r : Option ℕ) {Else : Type 0} → (Else → FreePlace b.indices i used r) → MatchOption s Else (λ p. r ≡ Some p) → MatchOption r (Full b used i w) (Spot b used i w)
  place_found None none r free other = spot_free none r (free other)
  place_found (Some p) found r free same =
      subst (λ (x : Option ℕ). MatchOption x (Full b used i w) (Spot b used i w)) (sym same) (spot_found p found)

or_false_left : (x y : Bool) → x ≡ false → (x || y) ≡ y
or_false_left true y e = absurd (both_ways true e refl)
or_false_left false y e = refl

-- an index that names another place takes nothing, nor does the one left out
module _ (indices : List ℕ) (i p : ℕ) where
  taken_more : (n : ℕ) → taken indices i p (n + 1) ≡ ((not (eqb n i) && eqb (place_of (get_or indices n 0)) p) || taken indices i p n)
  taken_more n = ap (taken indices i p) (add-one n)

  pub taken_apart : (n : ℕ) → (place_of (get_or indices n 0) ≡ p → ⊥) → taken indices i p (n + 1) ≡ taken indices i p n
  taken_apart n apart = taken_more n ∙ or_false_left _ _ (and_right _ _ (ne_eqb _ p apart))

  pub taken_itself : (n : ℕ) → n ≡ i → taken indices i p (n + 1) ≡ taken indices i p n
  taken_itself n same = taken_more n ∙ or_false_left _ _ (and_left _ _ (not_from_true _ (eq-eqb n i same)))
