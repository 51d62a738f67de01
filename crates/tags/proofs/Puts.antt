-- A word put into a block: what the block spells then, and why a full block has too many different words.
use Rattle.std.proofs.Common.{◌≡◌, ℕ, ◌<◌, ◌≤◌, true, List, ◌∷◌, get_or, sym, ap, ◌∙◌, ⊎_elim, arith}
use Rattle.std.proofs.lemmas.List.{get_or-set_same, get_or-set_other}
use Rattle.std.proofs.lemmas.Bool.{cases_lt, cases_eq, both_ways, or_cases, eqb-true}
use Rattle.tags.specs.declared.palette.block.Block.{Block}
use Rattle.tags.specs.Palettes.{block_words, palette_places, is_in, distinct}
use Rattle.tags.specs.Blocks.{place_of, word_at, spelled, NamesLowest}
use Rattle.tags.specs.Spots.{Full, Put}
use Rattle.tags.proofs.Distinct.{is_in_place, distinct_new, distinct_within, distinct_apart, Apart}
use Rattle.tags.proofs.Marks.{taken_from, taken_by}
use Rattle.tags.proofs.Spelling.{spelled_at, in_palette}

module _ (b c : Block) (used i w : ℕ) (inside : used ≤ block_words) (here : i < block_words) (put : Put b c used i w) where
  palette_new : get_or c.palette put.at 0 ≡ w
  palette_new =
      let long = b.places in
      let low = put.spot.place in
      ap (λ xs. get_or xs put.at 0) put.palette ∙ get_or-set_same b.palette put.at w 0 (omega arith)

  palette_kept : (q : ℕ) → (q ≡ put.at → ⊥) → get_or c.palette q 0 ≡ get_or b.palette q 0
  palette_kept q other = ap (λ xs. get_or xs q 0) put.palette ∙ get_or-set_other b.palette put.at q w 0 other

  index_new : get_or c.indices i 0 ≡ put.at
  index_new =
      let long = b.spots in ap (λ xs. get_or xs i 0) put.indices ∙ get_or-set_same b.indices i put.at 0 (omega arith)

  index_kept : (j : ℕ) → (j ≡ i → ⊥) → get_or c.indices j 0 ≡ get_or b.indices j 0
  index_kept j other = ap (λ xs. get_or xs j 0) put.indices ∙ get_or-set_other b.indices i j put.at 0 other

  -- another index that names the place finds the word there already
  shared : (j : ℕ) → j < used → (j ≡ i → ⊥) → place_of (get_or b.indices j 0) ≡ put.at → get_or b.palette put.at 0 ≡ w
  shared j low other same =
      ⊎_elim (λ e. e)
      (λ ne. absurd (both_ways _ (put.spot.free ne) (taken_from b.indices i put.at j used low other same)))
      (cases_eq (get_or b.palette put.at 0) w)

  word_kept : (j : ℕ) → j < used → (j ≡ i → ⊥) → word_at c.palette (get_or c.indices j 0) ≡ word_at b.palette (get_or b.indices j 0)
  word_kept j low other =
      ap (word_at c.palette) (index_kept j other)
      ∙ ⊎_elim
      (λ same. ap (λ q. get_or c.palette q 0) same ∙ palette_new ∙ sym (shared j low other same)
      ∙ sym (ap (λ q. get_or b.palette q 0) same))
      (λ ne. palette_kept (place_of (get_or b.indices j 0)) ne)
      (cases_eq (place_of (get_or b.indices j 0)) put.at)

  place_new : place_of (get_or c.indices i 0) ≡ put.at
  place_new = let low = put.spot.place in let e = index_new in omega arith

  word_new : word_at c.palette (get_or c.indices i 0) ≡ w
  word_new = ap (λ q. get_or c.palette q 0) place_new ∙ palette_new

  pub spells_kept : (j : ℕ) → j < used → (j ≡ i → ⊥) → get_or (spelled c) j 0 ≡ get_or (spelled b) j 0
  spells_kept j low other = spelled_at c j (omega arith) ∙ word_kept j low other ∙ sym (spelled_at b j (omega arith))

  pub spells_new : get_or (spelled c) i 0 ≡ w
  spells_new = spelled_at c i here ∙ word_new

  pub lowest_kept : (j : ℕ) → j < used → (j ≡ i → ⊥) → NamesLowest b j → NamesLowest c j
  lowest_kept j low other lowest q same =
      let e : place_of (get_or c.indices j 0) ≡ place_of (get_or b.indices j 0) = ap place_of (index_kept j other) in
      let v : get_or c.palette q 0 ≡ word_at b.palette (get_or b.indices j 0) = same ∙ word_kept j low other in
      let old : place_of (get_or b.indices j 0) ≤ q
      = ⊎_elim
      (λ at. let has : w ≡ word_at b.palette (get_or b.indices j 0) = sym palette_new ∙ ap (λ m. get_or c.palette m 0) (sym at) ∙ v in
      ⊎_elim
      (λ found. lowest q (ap (λ m. get_or b.palette m 0) at ∙ found ∙ has))
      (λ ne. absurd (both_ways _ (put.spot.new ne) (ap (λ x. is_in x b.palette) has ∙ in_palette b (get_or b.indices j 0))))
      (cases_eq (get_or b.palette put.at 0) w))
      (λ ne. lowest q (sym (palette_kept q ne) ∙ v))
      (cases_eq q put.at) in
      omega arith

  pub lowest_new : NamesLowest c i
  lowest_new q same =
      let e = place_new in
      let low = put.spot.place in
      ⊎_elim
      (λ at. omega arith)
      (λ ne. let has : get_or b.palette q 0 ≡ w = sym (palette_kept q ne) ∙ same ∙ word_new in
      ⊎_elim (λ small. omega (arith, put.spot.lowest q small has)) (λ large. omega arith) (cases_lt q palette_places))
      (cases_eq q put.at)

-- a list with all other words of a full block, and one more, has too many different words
module _ (b : Block) (used i w : ℕ) (inside : used ≤ block_words) (full : Full b used i w) (lowest : (j : ℕ) → j < used → (j ≡ i → ⊥) → NamesLowest b j) where
  palette_apart : Apart b.palette
  palette_apart p q low high same =
      let long = b.places in
      let left = taken_by b.indices i p used (full.named p (omega arith)) in
      let right = taken_by b.indices i q used (full.named q (omega arith)) in
      let p-below = lowest left.0 left.1 left.2 q (sym same ∙ sym (ap (λ m. get_or b.palette m 0) left.3)) in
      let q-below = lowest right.0 right.1 right.2 p (same ∙ sym (ap (λ m. get_or b.palette m 0) right.3)) in
      omega (arith, left.3, right.3)

  pub full_many : (words : List ℕ) → ((j : ℕ) → j < used → (j ≡ i → ⊥) → is_in (get_or (spelled b) j 0) words ≡ true) → is_in w words ≡ true → palette_places < distinct words
  full_many words others new =
      let long = b.places in
      let within = distinct_within (w ∷ b.palette) words (λ x h.
      ⊎_elim
      (λ same. ap (λ v. is_in v words) (eqb-true x w same) ∙ new)
      (λ old. let at = is_in_place x b.palette old in
      let low = at.1 in
      let named = taken_by b.indices i at.0 used (full.named at.0 (omega arith)) in
      let j-low = named.1 in
      let spell : get_or (spelled b) named.0 0 ≡ x
      = spelled_at b named.0 (omega arith) ∙ ap (λ m. get_or b.palette m 0) named.3 ∙ at.2 in
      ap (λ v. is_in v words) (sym spell) ∙ others named.0 named.1 named.2)
      (or_cases _ _ h)) in
      omega (arith, distinct_new w b.palette full.missing, distinct_apart b.palette palette_apart)
