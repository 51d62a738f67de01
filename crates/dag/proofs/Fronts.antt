-- The record of a sub-cube against the beginning of a list that passes.
use Rattle.std.proofs.Common.{◌≡◌, ℕ, zero, suc, ◌+◌, ◌*◌, ◌/◌, ◌^◌, ◌<◌, ◌≤◌, true, false, cond, ltb, List, length, get_or, take, drop, sym, refl, ap, ◌∙◌, subst, ap₂, ⊎_elim, mod-lt, mod-eq_of_lt, arith}
use Rattle.std.proofs.lemmas.List.{ext_get_or, get_or-take, length-take-le, take-append-drop}
use Rattle.std.proofs.lemmas.Bool.{cases_lt, cases_Bool, lt-ltb, eqb-true, eqb-false, cond-true, cond-false}
use Rattle.cells.specs.Hall.{bit, from_digits}
use Rattle.cells.proofs.Digits.{digits_same, digits_of}
use Rattle.nodes.specs.Records.{none, blank, of_child}
use Rattle.nodes.specs.declared.node.Node.{Node}
use Rattle.dag.specs.Sets.{Rising, count}
use Rattle.dag.specs.Rules.{node_at, link_of, offset_of, NodeRules}
use Rattle.dag.specs.Records.{first, lowest, occupied, eight, link_to, record_of}
use Rattle.dag.specs.Laws.{Nameable}
use Rattle.dag.specs.Sizes.{has_child, RightOffsets}
use Rattle.dag.proofs.Lowest.{lowest_there, lowest_stays}
use Rattle.dag.proofs.Parts.{child_eight}
use Rattle.dag.proofs.Whole.{Distinct}
use Rattle.dag.proofs.Fewest.{Serves}
use Rattle.dag.proofs.Sizes.{AllShaped, child_there, child_at, before_is}

-- ---- the lowest number in a beginning of a list without equal records

module _ (ns : List Node) (alone : Distinct ns) (m : ℕ) (within : m ≤ length ns) where
  front_length : length (take m ns) ≡ m
  front_length = length-take-le m ns within

  stays : (a : Node) → lowest (take m ns) a < m → lowest ns a ≡ lowest (take m ns) a
  stays a h = ap (λ ms. lowest ms a) (sym (take-append-drop m ns)) ∙ lowest_stays (take m ns) (drop m ns) a (rw front_length h)

  -- a record in it has its own number
  pub front_number : (q : ℕ) → q < m → lowest (take m ns) (node_at ns q) ≡ q
  front_number q h =
      let e : node_at (take m ns) q ≡ node_at ns q = get_or-take m ns q blank h in
      let l = front_length in
      let t : lowest (take m ns) (node_at ns q) ≤ q = subst (λ a. lowest (take m ns) a ≤ q) e (lowest_there (take m ns) q (omega arith)) in
      sym (stays (node_at ns q) (omega arith)) ∙ alone q (omega arith)

  -- a later record is not in it
  pub front_new : (n : ℕ) → m ≤ n → n < length ns → length (take m ns) ≤ lowest (take m ns) (node_at ns n)
  front_new n h l =
      let f = front_length in
      ⊎_elim
      (λ b. let e = stays (node_at ns n) b in let a = alone n l in absurd (omega arith))
      (λ b. omega arith)
      (cases_lt (lowest (take m ns) (node_at ns n)) m)

-- ---- the parts of a record

eight_list : (f : ℕ → ℕ) (xs : List ℕ) → length xs ≡ 8 → ((i : ℕ) → i < 8 → f i ≡ of_child i xs) → eight f ≡ xs
eight_list f xs h same =
    ext_get_or 0 (eight f) xs (sym h)
    (λ i l. sym (cond-true (ltb i 8) (get_or (eight f) i 0) 0 (lt-ltb i 8 l)) ∙ child_eight f i l ∙ same i l ∙ cond-true (ltb i 8) (get_or xs i 0) 0 (lt-ltb i 8 l))

bit_is : (a : Node) (i : ℕ) → bit i a.mask ≡ cond {A = ℕ} (has_child a i) 1 0
bit_is a i =
    let l = mod-lt (a.mask / 2 ^ i) {m = 2} (omega arith) in
    ⊎_elim
    (λ t. eqb-true (bit i a.mask) 1 t ∙ ap (λ b. cond {A = ℕ} b 1 0) (sym t))
    (λ t. let n = eqb-false (bit i a.mask) 1 t in zero_bit (bit i a.mask) l n ∙ ap (λ b. cond {A = ℕ} b 1 0) (sym t))
    (cases_Bool (has_child a i))
  where
    zero_bit : (x : ℕ) → x < 2 → (x ≡ 1 → ⊥) → x ≡ 0
    zero_bit x l n = ⊎_elim (λ b. omega arith) (λ b. absurd (n (omega arith))) (cases_lt x 1)

-- the links of record n lie below m; on level 1 there are none
abbrev pub LinksBelow : List Node → ℕ → ℕ → ℕ → Type 0
LinksBelow ns zero n m = Unit {0}
LinksBelow ns (suc k) n m = (i : ℕ) → i < 8 → has_child (node_at ns n) i ≡ true → link_of (node_at ns n) i < m

module _ (L : ℕ) (ns : List Node) (cells : List ℕ) (rules : NodeRules L ns) (few : Nameable ns) (shaped : AllShaped ns) (rising : Rising cells)
    (alone : Distinct ns) (offsets : (n : ℕ) → n < length ns → RightOffsets ns n) where
  -- by the rules the links lie below the record
  pub links_below : (k n m : ℕ) → n < length ns → (node_at ns n).level ≡ suc k → n ≤ m → LinksBelow ns k n m
  links_below zero n m h v l = tt
  links_below (suc k) n m h v l = λ i b t.
      let r = ((rules.r3 n h (omega arith) i b).2 (eqb-true (bit i (node_at ns n).mask) 1 t)).0 in omega arith

  no_link : (k n i : ℕ) → i < 8 → n < length ns → (node_at ns n).level ≡ suc k → has_child (node_at ns n) i ≡ false → link_of (node_at ns n) i ≡ none
  no_link zero n i l h v t = rules.r2 n h v i l
  no_link (suc k) n i l h v t = (rules.r3 n h (omega arith) i l).0 (bit_is (node_at ns n) i ∙ ap (λ b. cond {A = ℕ} b 1 0) t)

  module _ (m : ℕ) (within : m ≤ length ns) where
    mask_is : (k s n : ℕ) → Serves cells ns (suc k) s n → from_digits 2 (λ i. cond (occupied cells k (8 * s + i)) 1 0) 8 ≡ (node_at ns n).mask
    mask_is k s n h =
        digits_same 2 (λ i. cond (occupied cells k (8 * s + i)) 1 0) (λ i. bit i (node_at ns n).mask) 8
        (λ i l. ap (λ b. cond {A = ℕ} b 1 0) (sym (child_there L ns cells rules few shaped k s n i l h)) ∙ sym (bit_is (node_at ns n) i))
        ∙ digits_of 2 (node_at ns n).mask 8 (omega arith) ∙ mod-eq_of_lt (shaped n h.there).mask_fits

    offset_is : (k s n i : ℕ) → i < 8 → Serves cells ns (suc k) s n
        → cond {A = ℕ} (occupied cells k (8 * s + i)) (count cells (first k (8 * s)) (first k (8 * s + i))) 0 ≡ offset_of (node_at ns n) i
    offset_is k s n i l h =
        ap₂ (λ b x. cond {A = ℕ} b x 0) (sym (child_there L ns cells rules few shaped k s n i l h)) (sym (before_is L ns cells rules few shaped rising k s n h i (omega arith)))
        ∙ sym (offsets n h.there k h.level i l)

    link_by : (k s n i : ℕ) → i < 8 → Serves cells ns (suc k) s n → (occupied cells k (8 * s + i) ≡ true → link_to cells (take m ns) k (8 * s + i) ≡ link_of (node_at ns n) i)
        → cond (occupied cells k (8 * s + i)) (link_to cells (take m ns) k (8 * s + i)) none ≡ link_of (node_at ns n) i
    link_by k s n i l h rest =
        ⊎_elim
        (λ o. cond-true (occupied cells k (8 * s + i)) _ none o ∙ rest o)
        (λ o. cond-false (occupied cells k (8 * s + i)) _ none o
        ∙ sym (no_link k n i l h.there h.level (child_there L ns cells rules few shaped k s n i l h ∙ o)))
        (cases_Bool (occupied cells k (8 * s + i)))

    record_by : (k s n : ℕ) → Serves cells ns (suc k) s n → ((i : ℕ) → i < 8 → occupied cells k (8 * s + i) ≡ true → link_to cells (take m ns) k (8 * s + i) ≡ link_of (node_at ns n) i)
        → record_of cells (take m ns) k s ≡ node_at ns n
    record_by k s n h rest =
        let u = mask_is k s n h in
        let v = eight_list (λ i. cond (occupied cells k (8 * s + i)) (link_to cells (take m ns) k (8 * s + i)) none) (node_at ns n).links (shaped n h.there).eight_links
        (λ i l. link_by k s n i l h (rest i l)) in
        let w = eight_list (λ i. cond (occupied cells k (8 * s + i)) (count cells (first k (8 * s)) (first k (8 * s + i))) 0) (node_at ns n).offsets (shaped n h.there).eight_offsets
        (λ i l. offset_is k s n i l h) in
        let e = h.level in
        λ j. record { level = sym e j; mask = u j; links = v j; offsets = w j }

    -- the record of a sub-cube against the first m records is record n, if that stands for the sub-cube and its links lie below m
    pub record_is : (k s n : ℕ) → Serves cells ns (suc k) s n → LinksBelow ns k n m → record_of cells (take m ns) k s ≡ node_at ns n
    record_is zero s n h below =
        record_by zero s n h (λ i l o. bottom (8 * s + i) ∙ sym (rules.r2 n h.there h.level i l))
      where
        bottom : (t : ℕ) → link_to cells (take m ns) 0 t ≡ none
        bottom t = unfold link_to in refl
    record_is (suc k) s n h below =
        record_by (suc k) s n h
        (λ i l o.
        let q = link_of (node_at ns n) i in
        let kid = child_at cells ns (suc k) s n i l h o in
        let low = below i l (child_there L ns cells rules few shaped (suc k) s n i l h ∙ o) in
        link (8 * s + i) (record_is k (8 * s + i) q kid (links_below k q m kid.there kid.level (omega arith)))
        ∙ front_number ns alone m within q low)
      where
        link : (t : ℕ) {a : Node} → record_of cells (take m ns) k t ≡ a → link_to cells (take m ns) (suc k) t ≡ lowest (take m ns) a
        link t e = unfold link_to in ap (lowest (take m ns)) e
