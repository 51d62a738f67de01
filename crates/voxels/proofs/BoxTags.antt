-- The tags in a box, by the cells and their tags.
use Rattle.std.proofs.Common.{◌≡◌, ℕ, zero, suc, ◌+◌, ◌^◌, ◌<◌, ◌≤◌, Bool, true, false, cond, ◌&&◌, ◌||◌, eqb, ltb, leb, List, [], ◌∷◌, ◌++◌, length, Some, None, Option, sym, refl, ap, ◌∙◌, ap₂, ⊎_elim, arith}
use Rattle.std.specs.List.{slice_get, AllByRecursion}
use Rattle.std.proofs.ByRecursion.{All-weaker}
use Rattle.std.proofs.lemmas.Bool.{cases_eq, eq-eqb, ne_eqb, lt-ltb, le-ltb, le-leb, and_from, and_right}
use Rattle.cells.specs.Hall.{cell_at}
use Rattle.cells.specs.Boxes.{box_holds}
use Rattle.cells.specs.declared.boxes.CellBox.{CellBox}
use Rattle.dag.specs.Sets.{Rising, has, count, CellSet}
use Rattle.dag.proofs.Contents.{above_first, rising_tail}
use Rattle.dag.proofs.Unique.{not_before}
use Rattle.voxels.specs.declared.found.Found.{Found}
use Rattle.voxels.specs.Finds.{ranked}
use Rattle.voxels.specs.Stands.{stands_at}
use Rattle.voxels.specs.Strict.{tag_found, boxed, tags_from, tags_over, tags_inside}
use Rattle.voxels.proofs.Summing.{tags_none}

-- looks that find the same tags
pub tags_same : {K : Type 0} (L : ℕ) (bounds : CellBox) (look other : ℕ → Option (Found K)) (from many : ℕ)
    → ((code : ℕ) → from ≤ code → code < from + many → tag_found (look code) ≡ tag_found (other code)) → tags_from L bounds look from many ≡ tags_from L bounds other from many
unfolding tags_from
tags_same L bounds look other from zero h = refl
tags_same L bounds look other from (suc many) h =
    ap₂ (λ ts us. cond (box_holds bounds (cell_at L from)) ts [] ++ us) (h from (omega arith) (omega arith))
    (tags_same L bounds look other (suc from) many (λ code a b. h code (omega arith) (omega arith)))

-- all later cells are above the first
later : (c : ℕ) (cells : List ℕ) → Rising (c ∷ cells) → AllByRecursion (λ d. c < d) cells
later c [] r = tt
later c (d ∷ cells) (l, r) = (l, All-weaker (λ e. d < e) (λ e. c < e) (λ e h. omega arith) cells (later d cells r))

module _ {K : Type 0} (c : ℕ) (cells : List ℕ) (t : K) (tags : List K) where
  -- what stands at the first cell
  head_tag : Rising (c ∷ cells) → tag_found (stands_at (c ∷ cells) (t ∷ tags) c) ≡ t ∷ []
  unfolding has count
  head_tag r =
      let e : eqb c c ≡ true = eq-eqb c c refl in
      let z : cond {A = ℕ} (leb 0 c && ltb c c) 1 0 ≡ 0 = ap (λ b. cond {A = ℕ} b 1 0) (and_right _ _ (le-ltb c c (omega arith))) in
      let n : count (c ∷ cells) 0 c ≡ 0 = ap₂ (λ a b. a + b) z (above_first c cells c r (omega arith)) in
      ap₂ (λ (b : Bool) (m : ℕ). tag_found (cond b (ranked m (slice_get (t ∷ tags) m)) None)) (ap (λ b. b || has cells c) e) n

  -- and at a later code
  tail_tag : (code : ℕ) → c < code → tag_found (stands_at (c ∷ cells) (t ∷ tags) code) ≡ tag_found (stands_at cells tags code)
  unfolding has count
  tail_tag code h =
      let e : eqb c code ≡ false = ne_eqb c code (λ z. absurd (omega arith)) in
      let o : cond {A = ℕ} (leb 0 c && ltb c code) 1 0 ≡ 1 = ap (λ b. cond {A = ℕ} b 1 0) (and_from _ _ (le-leb 0 c (omega arith)) (lt-ltb c code h)) in
      let n : count (c ∷ cells) 0 code ≡ suc (count cells 0 code) = ap (λ a. a + count cells 0 code) o ∙ omega arith in
      ap₂ (λ (b : Bool) (m : ℕ). tag_found (cond b (ranked m (slice_get (t ∷ tags) m)) None)) (ap (λ b. b || has cells code) e) n
      ∙ go (has cells code) (count cells 0 code) (slice_get tags (count cells 0 code))
    where
      go : (b : Bool) (m : ℕ) (o : Option K) → tag_found (cond b (ranked (suc m) o) None) ≡ tag_found (cond b (ranked m o) None)
      go true m None = refl
      go true m (Some u) = refl
      go false m o = refl

no_cell : (code : ℕ) → has [] code ≡ false
unfolding has
no_cell code = refl

module _ {K : Type 0} (L : ℕ) (bounds : CellBox) where
  nothing_at : (cells : List ℕ) (tags : List K) (code : ℕ) → has cells code ≡ false → boxed L bounds (stands_at cells tags) code ≡ []
  nothing_at cells tags code e =
      ap (λ b. cond (box_holds bounds (cell_at L code)) (tag_found (cond b (ranked (count cells 0 code) (slice_get tags (count cells 0 code))) None)) []) e
      ∙ go (box_holds bounds (cell_at L code))
    where
      go : (b : Bool) → cond {A = List K} b [] [] ≡ []
      go true = refl
      go false = refl

  one_tag : (b : Bool) (t : K) (rest : List K) → cond b (t ∷ []) [] ++ rest ≡ cond b (t ∷ rest) rest
  one_tag true t rest = refl
  one_tag false t rest = refl

  stands_from : (cells : List ℕ) (tags : List K) (from many : ℕ) → Rising cells → AllByRecursion (λ c. (from ≤ c) × (c < from + many)) cells → length tags ≡ length cells
      → tags_from L bounds (stands_at cells tags) from many ≡ tags_inside L bounds cells tags
  unfolding tags_from
  stands_from [] tags from many r within e = tags_none L bounds (stands_at [] tags) from many (λ code a b. nothing_at [] tags code (no_cell code))
  stands_from (c ∷ cells) tags from zero r within e = absurd (omega (arith, within.0.0, within.0.1))
  stands_from (c ∷ cells) [] from (suc many) r within e = absurd (omega (arith, e))
  stands_from (c ∷ cells) (t ∷ tags) from (suc many) r within e =
      ⊎_elim
      (λ z.
      let above = later c cells r in
      ap₂ (λ (ts us : List K). cond (box_holds bounds (cell_at L from)) ts [] ++ us)
      (ap (λ code. tag_found (stands_at (c ∷ cells) (t ∷ tags) code)) (sym z) ∙ head_tag c cells t tags r)
      (tags_same L bounds (stands_at (c ∷ cells) (t ∷ tags)) (stands_at cells tags) (suc from) many (λ code a b. tail_tag c cells t tags code (omega arith))
      ∙ stands_from cells tags (suc from) many (rising_tail c cells r) (both cells above within.1 z) (omega (arith, e)))
      ∙ one_tag (box_holds bounds (cell_at L from)) t (tags_inside L bounds cells tags)
      ∙ ap (λ code. cond (box_holds bounds (cell_at L code)) (t ∷ tags_inside L bounds cells tags) (tags_inside L bounds cells tags)) (sym z))
      (λ z.
      let up : from < c = omega (arith, within.0.0) in
      ap (λ ts. ts ++ tags_from L bounds (stands_at (c ∷ cells) (t ∷ tags)) (suc from) many) (nothing_at (c ∷ cells) (t ∷ tags) from (not_before c cells from r up))
      ∙ stands_from (c ∷ cells) (t ∷ tags) (suc from) many r
      ((omega arith, omega (arith, within.0.1)), both_up cells up (later c cells r) within.1) e)
      (cases_eq c from)
    where
      both : (ds : List ℕ) → AllByRecursion (λ d. c < d) ds → AllByRecursion (λ d. (from ≤ d) × (d < from + suc many)) ds → c ≡ from → AllByRecursion (λ d. (suc from ≤ d) × (d < suc from + many)) ds
      both [] a b z = tt
      both (d ∷ ds) a b z = ((omega (arith, a.0), omega (arith, b.0.1)), both ds a.1 b.1 z)

      both_up : (ds : List ℕ) → from < c → AllByRecursion (λ d. c < d) ds → AllByRecursion (λ d. (from ≤ d) × (d < from + suc many)) ds → AllByRecursion (λ d. (suc from ≤ d) × (d < suc from + many)) ds
      both_up [] u a b = tt
      both_up (d ∷ ds) u a b = ((omega (arith, a.0), omega (arith, b.0.1)), both_up ds u a.1 b.1)

  -- what stands in the box are the tags of the cells that lie in it
  pub stands_tags : (cells : List ℕ) (tags : List K) → CellSet L cells → length tags ≡ length cells → tags_over L bounds (stands_at cells tags) ≡ tags_inside L bounds cells tags
  stands_tags cells tags all e =
      stands_from cells tags 0 (8 ^ L) all.rising (All-weaker (λ c. c < 8 ^ L) (λ c. (0 ≤ c) × (c < 0 + 8 ^ L)) (λ c h. (omega arith, omega arith)) cells all.inside) e
