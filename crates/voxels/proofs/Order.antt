-- The tag that is picked is the strictest.
use Rattle.std.proofs.Common.{◌≡◌, ℕ, zero, suc, Bool, true, false, cond, ◌||◌, List, [], ◌∷◌, Some, None, sym, refl, ap, ◌∙◌, subst, arith}
use Rattle.std.specs.List.{slice_get, AllByRecursion}
use Rattle.voxels.specs.Strict.{StrictestOf, picked}

module _ {K : Type 0} (stricter : K → K → Bool) (total : (a b : K) → (stricter a b || stricter b a) ≡ true)
    (through : (a b c : K) → stricter a b ≡ true → stricter b c ≡ true → stricter a c ≡ true) where
  as_strict : (a : K) → stricter a a ≡ true
  as_strict a = go (stricter a a) (total a a)
    where
      go : (b : Bool) → (b || b) ≡ true → b ≡ true
      go true e = refl
      go false e = e

  other_way : (a b : K) → stricter a b ≡ false → stricter b a ≡ true
  other_way a b e = go (stricter a b) (stricter b a) e (total a b)
    where
      go : (p q : Bool) → p ≡ false → (p || q) ≡ true → q ≡ true
      go false q e f = f
      go true q e f = let z : ◌≡◌ {A = ℕ} 0 1 = cc in absurd (omega arith)

  -- what was picked from a first tag and a list: one of them, and at least as strict as each
  pub record Picks (t : K) (ts : List K) : Type 0 where
    pub tag : K
    pub is : picked stricter (Some t) ts ≡ Some tag
    pub at : ℕ
    pub there : slice_get (t ∷ ts) at ≡ Some tag
    pub first : stricter tag t ≡ true
    pub rest : AllByRecursion (λ u. stricter tag u ≡ true) ts

  place_in : (t x : K) (ts : List K) (b : Bool) (u : K) (n : ℕ) → slice_get (cond b t x ∷ ts) n ≡ Some u → (m : ℕ) × (slice_get (t ∷ x ∷ ts) m ≡ Some u)
  place_in t x ts true u zero e = (0, e)
  place_in t x ts false u zero e = (1, e)
  place_in t x ts b u (suc n) e = (suc (suc n), e)

  picks : (t : K) (ts : List K) → Picks t ts
  picks t [] = record { tag = t; is = refl; at = 0; there = refl; first = as_strict t; rest = tt }
  picks t (x ∷ ts) = go (λ u. picks u ts) (stricter t x) refl
    where
      with_both : (b : Bool) → stricter t x ≡ b → (p : Picks (cond b t x) ts) → stricter (cond b t x) t ≡ true → stricter (cond b t x) x ≡ true → Picks t (x ∷ ts)
      with_both b e p left right =
          let here = place_in t x ts b p.tag p.at p.there in
          record {
            tag = p.tag;
            is = ap (λ q. picked stricter (Some (cond q t x)) ts) e ∙ p.is;
            at = here.0;
            there = here.1;
            first = through p.tag (cond b t x) t p.first left;
            rest = (through p.tag (cond b t x) x p.first right, p.rest);
          }

      go : ((u : K) → Picks u ts) → (b : Bool) → stricter t x ≡ b → Picks t (x ∷ ts)
      go more true e = with_both true e (more t) (as_strict t) e
      go more false e = with_both false e (more x) (other_way t x e) (as_strict x)

  pub picked_strictest : (tags : List K) → StrictestOf stricter tags (picked stricter None tags)
  picked_strictest [] = refl
  picked_strictest (t ∷ ts) =
      let p = picks t ts in
      subst (StrictestOf stricter (t ∷ ts)) (sym p.is) ((p.at, p.there), (p.first, p.rest))
