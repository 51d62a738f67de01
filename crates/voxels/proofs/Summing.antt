-- Summaries that take tags, list by list.
use Rattle.std.proofs.Common.{◌≡◌, ℕ, zero, suc, ◌+◌, ◌^◌, ◌<◌, ◌≤◌, Bool, List, [], ◌∷◌, ◌++◌, length, Some, None, Option, sym, refl, ap, ◌∙◌, append_assoc, add-zero, zero-add, arith, length-append}
use Rattle.std.proofs.lemmas.Bool.{cond_both}
use Rattle.cells.specs.Boxes.{box_holds}
use Rattle.cells.specs.Hall.{cell_at}
use Rattle.cells.specs.declared.boxes.CellBox.{CellBox}
use Rattle.voxels.specs.declared.found.Found.{Found}
use Rattle.voxels.specs.declared.strictest.Strictest.{Strictest}
use Rattle.voxels.specs.Strict.{picked, pick, summary, Took, tag_found, boxed, tags_from}

-- ---- taking

module _ {K : Type 0} (stricter : K → K → Bool) where
  picked_append : (o : Option K) (xs ys : List K) → picked stricter o (xs ++ ys) ≡ picked stricter (picked stricter o xs) ys
  picked_append o [] ys = refl
  picked_append o (x ∷ xs) ys = picked_append (pick stricter o x) xs ys

  pub took_none : (a : Strictest K) → Took stricter a [] a
  took_none a = record { cells = λ h. sym (add-zero a.cells); tag = refl }

  pub took_more : (a b c : Strictest K) (xs ys : List K) → Took stricter a xs b → Took stricter b ys c → Took stricter a (xs ++ ys) c
  took_more a b c xs ys p q = record {
    cells = λ h.
        let l = length-append xs ys in
        let e = p.cells (omega arith) in
        let f = q.cells (omega arith) in
        omega arith;
    tag = q.tag ∙ ap (λ o. picked stricter o ys) p.tag ∙ sym (picked_append a.tag xs ys);
  }

  -- from nothing to the summary
  pub took_all : (best : Strictest K) (tags : List K) → Took stricter (record { cells = 0; tag = None }) tags best → length tags < 2 ^ 64 → best ≡ summary stricter tags
  took_all best tags took few =
      let e : best.cells ≡ length tags = took.cells (omega arith) ∙ zero-add (length tags) in
      let f = took.tag in
      λ j. record { cells = e j; tag = f j }

-- ---- the tags at codes that follow one another

module _ {K : Type 0} (L : ℕ) (bounds : CellBox) (look : ℕ → Option (Found K)) where
  pub tags_append : (from many more : ℕ) → tags_from L bounds look from (many + more) ≡ tags_from L bounds look from many ++ tags_from L bounds look (from + many) more
  unfolding tags_from
  tags_append from zero more =
      let e : from + 0 ≡ from = add-zero from in
      ap (tags_from L bounds look from) (zero-add more) ∙ ap (λ a. tags_from L bounds look a more) (sym e)
  tags_append from (suc many) more =
      let e : suc many + more ≡ suc (many + more) = omega arith in
      let f : suc from + many ≡ from + suc many = omega arith in
      ap (tags_from L bounds look from) e
      ∙ ap (λ ts. boxed L bounds look from ++ ts) (tags_append (suc from) many more ∙ ap (λ a. tags_from L bounds look (suc from) many ++ tags_from L bounds look a more) f)
      ∙ sym (append_assoc (boxed L bounds look from) (tags_from L bounds look (suc from) many) (tags_from L bounds look (from + suc many) more))

  pub tags_none : (from many : ℕ) → ((code : ℕ) → from ≤ code → code < from + many → boxed L bounds look code ≡ []) → tags_from L bounds look from many ≡ []
  unfolding tags_from
  tags_none from zero h = refl
  tags_none from (suc many) h =
      ap (λ ts. ts ++ tags_from L bounds look (suc from) many) (h from (omega arith) (omega arith))
      ∙ tags_none (suc from) many (λ code a b. h code (omega arith) (omega arith))

  pub tags_one : (from : ℕ) → tags_from L bounds look from 1 ≡ boxed L bounds look from
  unfolding tags_from
  tags_one from = right (boxed L bounds look from)
    where
      right : (ts : List K) → ts ++ [] ≡ ts
      right [] = refl
      right (t ∷ ts) = ap (λ us. t ∷ us) (right ts)

  -- at most one tag for each code
  pub tags_few : (from many : ℕ) → length (tags_from L bounds look from many) ≤ many
  unfolding tags_from
  tags_few from zero = omega arith
  tags_few from (suc many) =
      let a = length-append (boxed L bounds look from) (tags_from L bounds look (suc from) many) in
      let b = tags_few (suc from) many in
      let c = one (look from) in
      let d : length (boxed L bounds look from) ≤ 1 = cond_both (box_holds bounds (cell_at L from)) (tag_found (look from)) [] (λ (ts : List K). length ts ≤ 1) (λ t. c) (λ t. omega arith) in
      omega arith
    where
      one : (o : Option (Found K)) → length (tag_found o) ≤ 1
      one None = omega arith
      one (Some f) = omega arith
