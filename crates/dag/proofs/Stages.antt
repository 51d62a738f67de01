-- What is known at each stage of the closing: with levels 1 to r closed, the record of level r + 1 may be written.
use Rattle.std.proofs.Common.{◌≡◌, ℕ, zero, suc, ◌+◌, ◌-◌, ◌*◌, ◌/◌, ◌%◌, ◌^◌, ◌<◌, ◌≤◌, true, List, [], ◌∷◌, ◌++◌, length, sym, refl, ap, ◌∙◌, subst, ⊎_elim, add-zero, add-suc, suc-mul, mul-div_cancel, add-one, arith}
use native.Mathlib.Nat.{mul-mod_left}
use Rattle.std.proofs.lemmas.Bool.{eq-eqb, ltb-true, ltb-false, lt-ltb, le-ltb, cond-true, cond-false, cond_both, cases_lt, cases_order, both_ways}
use Rattle.cells.specs.SubCubes.{sub_cube}
use Rattle.cells.proofs.Digits.{base_pos}
use Rattle.nodes.specs.declared.node.Node.{Node}
use Rattle.dag.specs.Sets.{count, has}
use Rattle.dag.specs.Records.{first, lowest, occupied, link_to, record_of}
use Rattle.dag.specs.Sealed.{Begins, there, written, turn, ends, closing, below}
use Rattle.dag.specs.Rows.{carry}
use Rattle.dag.proofs.Counts.{count_wider, has_holds}
use Rattle.dag.proofs.Lowest.{lowest_new, lowest_most}
use Rattle.dag.proofs.Growth.{begins_self, begins_trans, turn_begins, closing_begins, below_begins}
use Rattle.dag.proofs.Known.{Known, ChildrenKnown, known_stays, turn_known, record_stays}
use Rattle.dag.proofs.Spans.{first_le, first_next, span_from, span_to, ends_next}
use Rattle.dag.proofs.Carry.{AllUpTo, beyond_free}

-- ---- closing more levels, and more codes, only adds

closing_more : (cells : List ℕ) (code k n : ℕ) (ns : List Node) → Begins (closing cells code k ns) (closing cells code (k + n) ns)
closing_more cells code k zero ns = subst (λ j. Begins (closing cells code k ns) (closing cells code j ns)) (sym (add-zero k)) (begins_self (closing cells code k ns))
closing_more cells code k (suc n) ns =
    subst (λ j. Begins (closing cells code k ns) (closing cells code j ns)) (sym (add-suc k n))
    (begins_trans _ _ _ (closing_more cells code k n ns) (step (k + n)))
  where
    step : (j : ℕ) → Begins (closing cells code j ns) (closing cells code (suc j) ns)
    step j =
        unfold closing in
        cond_both (ends (suc j) code) (turn cells j (sub_cube (suc j) code) (closing cells code j ns)) (closing cells code j ns) (Begins (closing cells code j ns))
        (λ e. turn_begins cells j (sub_cube (suc j) code) (closing cells code j ns)) (λ e. begins_self (closing cells code j ns))

pub below_later : (L : ℕ) (cells : List ℕ) (m n : ℕ) → m ≤ n → Begins (below L cells m) (below L cells n)
below_later L cells m n h =
    let e : n - m + m ≡ n = omega arith in
    subst (λ c. Begins (below L cells m) (below L cells c)) e (below_begins L cells m (n - m))

-- what is closed at a code is in the list below any higher code
below_closing : (L : ℕ) (cells : List ℕ) (code m k : ℕ) → code < m → k ≤ L → Begins (closing cells code k (below L cells code)) (below L cells m)
below_closing L cells code m k h l =
    let e : k + (L - k) ≡ L = omega arith in
    begins_trans _ _ _
    (subst (λ j. Begins (closing cells code k (below L cells code)) (closing cells code j (below L cells code))) e (closing_more cells code k (L - k) (below L cells code)))
    (begins_trans _ _ _ one_code (below_later L cells (suc code) m (omega arith)))
  where
    one_code : Begins (closing cells code L (below L cells code)) (below L cells (suc code))
    one_code = unfold below in begins_self (closing cells code L (below L cells code))

-- ---- a sub-cube is known once its last code is closed

first_suc : (k s : ℕ) → first k (s + 1) ≡ first k s + 8 ^ k
first_suc k s = rw (add-one s) (suc-mul s (8 ^ k))

module _ (k s code : ℕ) (e : code + 1 ≡ first k (s + 1)) where
  is_last : ends k code ≡ true
  is_last = eq-eqb _ 0 (ap (λ n. n % 8 ^ k) e ∙ mul-mod_left (s + 1) (8 ^ k))

  is_its : sub_cube k code ≡ s
  is_its =
      let a = ends_next k code is_last in
      let b : sub_cube k (code + 1) ≡ s + 1 = ap (λ n. n / 8 ^ k) e ∙ mul-div_cancel (s + 1) (base_pos 8 k (omega arith)) in
      omega arith

closing_last : (cells : List ℕ) (k s code : ℕ) (ns : List Node) → code + 1 ≡ first (suc k) (s + 1)
    → closing cells code (suc k) ns ≡ turn cells k s (closing cells code k ns)
unfolding closing
closing_last cells k s code ns e =
    cond-true (ends (suc k) code) _ _ (is_last (suc k) s code e)
    ∙ ap (λ t. turn cells k t (closing cells code k ns)) (is_its (suc k) s code e)

module _ (L : ℕ) (cells : List ℕ) where
  known_closed : (k s code : ℕ) → k ≤ L → code + 1 ≡ first k (s + 1) → occupied cells k s ≡ true → Known cells (closing cells code k (below L cells code)) k s
  known_closed zero s code h e o = tt
  known_closed (suc k) s code h e o =
      let n = first_next k s in
      let g = below_closing L cells in
      subst (λ ms. Known cells ms (suc k) s) (sym (closing_last cells k s code (below L cells code) e))
      (turn_known cells k s (closing cells code k (below L cells code))
      (λ i l q.
      let d : ℕ = first k (8 * s + i + 1) - 1 in
      let f = first_suc k (8 * s + i) in
      let p = base_pos 8 k (omega arith) in
      let x : first k (8 * s + i + 1) - 1 + 1 ≡ first k (8 * s + i + 1) = omega arith in
      ⊎_elim
      (λ b.
      let a = first_le k (8 * s + i + 1) (8 * s + 7) (omega arith) in
      let c = first_suc k (8 * s + 7) in
      let w : first k (8 * s + 7 + 1) ≡ first k (8 * s + 8) = ap (first k) (omega arith) in
      (known_stays cells (closing cells d k (below L cells d)) (closing cells code k (below L cells code))
      (begins_trans _ _ _ (g d code k (omega arith) (omega arith)) (closing_begins cells code k (below L cells code)))
      k (8 * s + i) (known_closed k (8 * s + i) d (omega arith) x q)).0)
      (λ b. let w : first k (8 * s + 8) ≡ first k (8 * s + i + 1) = ap (first k) (omega arith) in
      known_closed k (8 * s + i) code (omega arith) (e ∙ n ∙ w) q)
      (cases_lt i 7))
      o)

  -- every occupied sub-cube whose last code is below m is known below m
  pub known_below : (m k s : ℕ) → k ≤ L → first k (s + 1) ≤ m → occupied cells k s ≡ true → Known cells (below L cells m) k s
  known_below m k s h l o =
      let f = first_suc k s in
      let p = base_pos 8 k (omega arith) in
      let d : ℕ = first k (s + 1) - 1 in
      let x : first k (s + 1) - 1 + 1 ≡ first k (s + 1) = omega arith in
      (known_stays cells (closing cells d k (below L cells d)) (below L cells m) (below_closing L cells d m k (omega arith) h)
      k s (known_closed k s d h x o)).0

-- ---- the stages

pub carry_begins : (cells : List ℕ) (m r : ℕ) (ns : List Node) → Begins ns (carry cells m r ns)
unfolding carry
carry_begins cells m zero ns = begins_self ns
carry_begins cells m (suc r) ns = begins_trans _ _ _ (carry_begins cells m r ns) (turn_begins cells r (sub_cube (suc r) m) (carry cells m r ns))

pub carry_later : (cells : List ℕ) (m r p : ℕ) (ns : List Node) → r ≤ p → Begins (carry cells m r ns) (carry cells m p ns)
carry_later cells m r p ns h =
    let e : r + (p - r) ≡ p = omega arith in
    subst (λ j. Begins (carry cells m r ns) (carry cells m j ns)) e (more (p - r))
  where
    next : (j : ℕ) → Begins (carry cells m j ns) (carry cells m (suc j) ns)
    next j = unfold carry in turn_begins cells j (sub_cube (suc j) m) (carry cells m j ns)

    more : (n : ℕ) → Begins (carry cells m r ns) (carry cells m (r + n) ns)
    more zero = subst (λ j. Begins (carry cells m r ns) (carry cells m j ns)) (sym (add-zero r)) (begins_self (carry cells m r ns))
    more (suc n) =
        subst (λ j. Begins (carry cells m r ns) (carry cells m j ns)) (sym (add-suc r n)) (begins_trans _ _ _ (more n) (next (r + n)))

-- the sub-cubes of a cell hold it
pub own_occupied : (cells : List ℕ) (m k : ℕ) → has cells m ≡ true → occupied cells k (sub_cube k m) ≡ true
own_occupied cells m k h =
    let c = ltb-true 0 (count cells m (m + 1)) (sym (has_holds cells m) ∙ h) in
    let a = span_from k m in
    let b = span_to k m in
    let w = count_wider cells (first k (sub_cube k m)) m (m + 1) (first k (sub_cube k m + 1)) a (omega arith) (omega arith) in
    lt-ltb 0 (count cells (first k (sub_cube k m)) (first k (sub_cube k m + 1))) (omega arith)

module _ (L : ℕ) (cells : List ℕ) (m : ℕ) (last : AllUpTo cells m) where
  children_known : (r : ℕ) → r ≤ L
      → (occupied cells r (sub_cube r m) ≡ true → Known cells (carry cells m r (below L cells m)) r (sub_cube r m))
      → ChildrenKnown cells (carry cells m r (below L cells m)) r (sub_cube (suc r) m)
  children_known r h own i l o =
      ⊎_elim
      (λ e. subst (Known cells (carry cells m r (below L cells m)) r) (sym e) (own (subst (λ t. occupied cells r t ≡ true) e o)))
      (⊎_elim
      (λ b.
      let a = first_le r (8 * sub_cube (suc r) m + i + 1) (sub_cube r m) (omega arith) in
      let c = span_from r m in
      (known_stays cells (below L cells m) (carry cells m r (below L cells m)) (carry_begins cells m r (below L cells m))
      r (8 * sub_cube (suc r) m + i) (known_below L cells m r (8 * sub_cube (suc r) m + i) h (omega arith) o)).0)
      (λ b. absurd (both_ways (occupied cells r (8 * sub_cube (suc r) m + i)) (beyond_free cells m last r (8 * sub_cube (suc r) m + i) b) o)))
      (cases_order (8 * sub_cube (suc r) m + i) (sub_cube r m))

  -- the sub-cube of m that was just closed is known
  pub own_known : (r : ℕ) → r ≤ L → occupied cells r (sub_cube r m) ≡ true → Known cells (carry cells m r (below L cells m)) r (sub_cube r m)
  unfolding carry
  own_known zero h o = tt
  own_known (suc r) h o =
      turn_known cells r (sub_cube (suc r) m) (carry cells m r (below L cells m)) (children_known r (omega arith) (own_known r (omega arith))) o

  -- at stage r every occupied child of the sub-cube of level r + 1 is known
  pub stage_known : (r : ℕ) → r ≤ L → ChildrenKnown cells (carry cells m r (below L cells m)) r (sub_cube (suc r) m)
  stage_known r h = children_known r h (own_known r h)

-- ---- a turn as a search and an addition

pub turn_occupied : (cells : List ℕ) (k s : ℕ) (ns : List Node) → occupied cells (suc k) s ≡ true → turn cells k s ns ≡ written ns (record_of cells ns k s)
unfolding turn
turn_occupied cells k s ns o = cond-true (occupied cells (suc k) s) _ ns o

-- where the search finds an equal record the list stays, and where it finds none the record goes to its end
pub turn_there : (cells : List ℕ) (k s : ℕ) (ns : List Node) → occupied cells (suc k) s ≡ true → lowest ns (record_of cells ns k s) < length ns → turn cells k s ns ≡ ns
turn_there cells k s ns o h =
    turn_occupied cells k s ns o ∙ cond-true (there ns (record_of cells ns k s)) ns _ (lt-ltb (lowest ns (record_of cells ns k s)) (length ns) h)

pub turn_new : (cells : List ℕ) (k s : ℕ) (ns : List Node) → occupied cells (suc k) s ≡ true → length ns ≤ lowest ns (record_of cells ns k s) → turn cells k s ns ≡ ns ++ record_of cells ns k s ∷ []
turn_new cells k s ns o h =
    turn_occupied cells k s ns o ∙ cond-false (there ns (record_of cells ns k s)) ns _ (le-ltb (lowest ns (record_of cells ns k s)) (length ns) h)

lowest_after : (ns : List Node) (a : Node) → lowest (written ns a) a ≡ lowest ns a
lowest_after ns a =
    cond_both (there ns a) ns (ns ++ a ∷ []) (λ ms. lowest ms a ≡ lowest ns a) (λ e. refl)
    (λ e. let l = ltb-false (lowest ns a) (length ns) e in
    let b = lowest_most ns a in
    lowest_new ns a l ∙ omega arith)

-- after its turn a sub-cube has the number that the search gave, or the next one where it found none
pub turn_number : (cells : List ℕ) (k s : ℕ) (ns : List Node) → ChildrenKnown cells ns k s → occupied cells (suc k) s ≡ true
    → link_to cells (turn cells k s ns) (suc k) s ≡ lowest ns (record_of cells ns k s)
unfolding link_to
turn_number cells k s ns h o =
    ap (lowest (turn cells k s ns)) (record_stays cells ns (turn cells k s ns) (turn_begins cells k s ns) k s h)
    ∙ ap (λ ms. lowest ms (record_of cells ns k s)) (turn_occupied cells k s ns o)
    ∙ lowest_after ns (record_of cells ns k s)
