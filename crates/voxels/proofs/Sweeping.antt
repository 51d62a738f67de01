-- A sweep takes the tags of a sub-cube, child by child.
use Rattle.std.proofs.Common.{◌≡◌, ℕ, suc, ◌+◌, ◌*◌, ◌^◌, Bool, true, false, cond, ◌⊎◌, List, [], ◌++◌, Some, None, Option, sym, refl, ap, ◌∙◌, subst, ap₂, inl, inr, add-zero, mul_assoc, mul_comm, add-mul, one-mul, pow-suc, zero-mul, mul-one, div-one, arith}
use Rattle.cells.specs.Hall.{cell_at}
use Rattle.cells.specs.SubCubes.{sub_cube}
use Rattle.cells.specs.Boxes.{box_holds}
use Rattle.cells.specs.declared.hall.Cell.{Cell}
use Rattle.cells.specs.declared.boxes.CellBox.{CellBox}
use Rattle.cells.proofs.Codes.{in_sub_cubes}
use Rattle.nodes.specs.declared.node.Node.{Node}
use Rattle.dag.specs.Walk.{walk, path, total}
use Rattle.dag.specs.Records.{first}
use Rattle.dag.proofs.Marks.{cell_cube}
use Rattle.voxels.specs.declared.visit.Visit.{Visit}
use Rattle.voxels.specs.declared.strictest.Strictest.{Strictest}
use Rattle.voxels.specs.Finds.{found}
use Rattle.voxels.specs.Looks.{shows}
use Rattle.voxels.specs.Strict.{Took, tag_found, boxed, tags_from}
use Rattle.voxels.specs.Visiting.{shrunk, shrunk_box, Visits, Nothing}
use Rattle.voxels.specs.Sweeps.{tagged_at, look_at}
use Rattle.voxels.proofs.Summing.{took_none, took_more, tags_append, tags_none, tags_one}

module _ {K : Type 0} (reading : ℕ → Option K) (stricter : K → K → Bool) (L : ℕ) (ns : List Node) (words : List ℕ) (bounds : CellBox) where
  -- the tags of sub-cube s of level k
  abbrev tags_in : ℕ → ℕ → List K
  tags_in k s = tags_from L bounds (look_at reading L ns words) (first k s) (8 ^ k)

  -- those of its first children
  abbrev pub tags_up_to : ℕ → ℕ → ℕ → List K
  tags_up_to k s i = tags_from L bounds (look_at reading L ns words) (first k (8 * s)) (i * 8 ^ k)

  nothing_boxed : (code : ℕ) → (box_holds bounds (cell_at L code) ≡ false) ⊎ (found L ns code ≡ None) → boxed L bounds (look_at reading L ns words) code ≡ []
  nothing_boxed code (inl e) = ap (λ b. cond b (tag_found (look_at reading L ns words code)) []) e
  nothing_boxed code (inr e) = ap (λ o. cond (box_holds bounds (cell_at L code)) (tag_found (shows reading words o)) []) e ∙ go (box_holds bounds (cell_at L code))
    where
      go : (b : Bool) → cond {A = List K} b [] [] ≡ []
      go true = refl
      go false = refl

  -- a sub-cube without occupied cells of the box
  pub nothing_in : (k s : ℕ) → Nothing L ns bounds k s → tags_in k s ≡ []
  nothing_in k s h =
      tags_none L bounds (look_at reading L ns words) (first k s) (8 ^ k)
      (λ code a b. nothing_boxed code (h code ((in_sub_cubes code k s).1 a (rw (add-mul, one-mul) b))))

  -- one child more
  pub tags_child : (k s i : ℕ) → tags_up_to k s (i + 1) ≡ tags_up_to k s i ++ tags_in k (8 * s + i)
  tags_child k s i =
      let e : (i + 1) * 8 ^ k ≡ i * 8 ^ k + 8 ^ k = rw (add-mul, one-mul) refl in
      let f : first k (8 * s) + i * 8 ^ k ≡ first k (8 * s + i) = sym (add-mul (8 * s) i (8 ^ k)) in
      ap (tags_from L bounds (look_at reading L ns words) (first k (8 * s))) e
      ∙ tags_append L bounds (look_at reading L ns words) (first k (8 * s)) (i * 8 ^ k) (8 ^ k)
      ∙ ap (λ a. tags_up_to k s i ++ tags_from L bounds (look_at reading L ns words) a (8 ^ k)) f

  -- all eight
  pub tags_all : (k s : ℕ) → tags_up_to k s 8 ≡ tags_in (suc k) s
  tags_all k s =
      let p = pow-suc 8 k in
      let e : 8 * 8 ^ k ≡ 8 ^ suc k = omega arith in
      let f : first k (8 * s) ≡ first (suc k) s = ap (λ n. n * 8 ^ k) (mul_comm 8 s) ∙ mul_assoc s 8 (8 ^ k) ∙ ap (λ n. s * n) e in
      ap₂ (tags_from L bounds (look_at reading L ns words)) f e

  -- none
  pub tags_start : (k s : ℕ) → tags_up_to k s 0 ≡ []
  tags_start k s = ap (tags_from L bounds (look_at reading L ns words) (first k (8 * s))) (zero-mul (8 ^ k)) ∙ (unfold tags_from in refl)

  module _ (k s i : ℕ) (entry best : Strictest K) where
    -- a child with nothing in the box
    pub child_nothing : Took stricter entry (tags_up_to k s i) best → Nothing L ns bounds k (8 * s + i) → Took stricter entry (tags_up_to k s (i + 1)) best
    child_nothing took nothing =
        subst (λ ts. Took stricter entry ts best) (sym (tags_child k s i ∙ ap (λ ts. tags_up_to k s i ++ ts) (nothing_in k (8 * s + i) nothing)))
        (took_more stricter entry best best (tags_up_to k s i) [] took (took_none stricter best))

    -- a child that was swept
    pub child_taken : (after : Strictest K) (next : Visit) → next.level ≡ k → Took stricter entry (tags_up_to k s i) best
        → Took stricter best (tags_in next.level (8 * s + i)) after → Took stricter entry (tags_up_to k s (i + 1)) after
    child_taken after next l took more =
        subst (λ ts. Took stricter entry ts after) (sym (tags_child k s i))
        (took_more stricter entry best after (tags_up_to k s i) (tags_in k (8 * s + i)) took (subst (λ j. Took stricter best (tags_in j (8 * s + i)) after) l more))

  -- one cell
  pub tags_cell : (s : ℕ) (visit : Visit) → visit.level ≡ 0 → Visits L ns bounds s visit → tags_in visit.level s ≡ tagged_at reading words visit.rank
  tags_cell s visit z v =
      let e : first 0 s ≡ s = mul-one s in
      let c : sub_cube 0 s ≡ s = cell_cube s in
      let lies : shrunk 0 (cell_at L s) ≡ visit.at = subst (λ l. (code : ℕ) → sub_cube l code ≡ s → shrunk l (cell_at L code) ≡ visit.at) z v.lies s c in
      let meets : box_holds (shrunk_box 0 bounds) visit.at ≡ true = subst (λ l. box_holds (shrunk_box l bounds) visit.at ≡ true) z v.meets in
      let here : box_holds (shrunk_box 0 bounds) (shrunk 0 (cell_at L s)) ≡ true = subst (λ p. box_holds (shrunk_box 0 bounds) p ≡ true) (sym lies) meets in
      let holds : box_holds bounds (cell_at L s) ≡ true = subst (λ p. box_holds bounds p ≡ true) (whole (cell_at L s)) (subst (λ b. box_holds b (shrunk 0 (cell_at L s)) ≡ true) (whole_box bounds) here) in
      let finds : found L ns s ≡ Some visit.rank =
      subst (λ l. (code : ℕ) → sub_cube l code ≡ s → found L ns code ≡ cond (walk ns l visit.node code) (Some (visit.rank + total (path ns l visit.node code))) None) z v.finds s c
      ∙ arrived visit.node visit.rank s in
      ap (λ l. tags_in l s) z
      ∙ ap (λ a. tags_from L bounds (look_at reading L ns words) a 1) e
      ∙ tags_one L bounds (look_at reading L ns words) s
      ∙ ap₂ (λ b o. cond b (tag_found (shows reading words o)) []) holds finds
    where
      whole : (c : Cell) → shrunk 0 c ≡ c
      whole c = λ j. record { x = div-one c.x j; y = div-one c.y j; z = div-one c.z j }

      whole_box : (b : CellBox) → shrunk_box 0 b ≡ b
      whole_box b = λ j. record { low = whole b.low j; high = whole b.high j }

      arrived : (n r code : ℕ) → cond (walk ns 0 n code) (Some (r + total (path ns 0 n code))) None ≡ Some r
      arrived n r code = unfold walk path in ap Some (add-zero r)
