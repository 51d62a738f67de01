-- Going from code m to a code c takes the turns of the sub-cubes of m at the levels at which m and c part, and no other that writes.
use Rattle.std.proofs.Common.{◌≡◌, ℕ, zero, suc, ◌+◌, ◌-◌, ◌/◌, ◌^◌, ◌<◌, ◌≤◌, true, false, cond, eqb, ◌≢◌, List, sym, refl, ap, ◌∙◌, subst, ⊎_elim, add-zero, add-suc, div-one, arith}
use native.Mathlib.Nat.{div-eq_of_lt, div_self}
use Rattle.std.proofs.lemmas.Bool.{eq-eqb, ne_eqb, cond-true, cond-false, cases_lt, cases_eq, cases_Bool}
use Rattle.cells.specs.SubCubes.{sub_cube}
use Rattle.nodes.specs.declared.node.Node.{Node}
use Rattle.dag.specs.Sets.{count}
use Rattle.dag.specs.Records.{first, occupied}
use Rattle.dag.specs.Sealed.{turn, ends, closing, below, sealed}
use Rattle.dag.specs.Rows.{carry}
use Rattle.dag.proofs.Counts.{count_wider}
use Rattle.dag.proofs.Spans.{first_le, span_to, up, sub_cube_le, ends_next, goes_on}
use Rattle.dag.proofs.Empty.{free_count, turn_free}

-- where two codes part, they part on every lower level too
pub parts_down : (a b k : ℕ) → sub_cube (suc k) a ≢ sub_cube (suc k) b → sub_cube k a ≢ sub_cube k b
parts_down a b k h e = h (up k a ∙ ap (λ n. n / 8) e ∙ sym (up k b))

-- the turns of the sub-cubes of m of levels 1 to k at which m and e part
unfoldable carried : List ℕ → ℕ → ℕ → ℕ → List Node → List Node
carried cells m e zero ns = ns
carried cells m e (suc k) ns =
    cond (eqb (sub_cube (suc k) m) (sub_cube (suc k) e)) (carried cells m e k ns) (turn cells k (sub_cube (suc k) m) (carried cells m e k ns))

-- no cell is above m
abbrev pub AllUpTo : List ℕ → ℕ → Type 0
AllUpTo cells m = (b : ℕ) → count cells (m + 1) b ≡ 0

module _ (cells : List ℕ) (m : ℕ) (last : AllUpTo cells m) where
  -- a sub-cube beyond that of m is free
  pub beyond_free : (k s : ℕ) → sub_cube k m < s → occupied cells k s ≡ false
  beyond_free k s h =
      let a = span_to k m in
      let b = first_le k (sub_cube k m + 1) s (omega arith) in
      let c = count_wider cells (m + 1) (first k s) (first k (s + 1)) (first k (s + 1)) (omega arith) (first_le k s (s + 1) (omega arith)) (omega arith) in
      let z = last (first k (s + 1)) in
      free_count cells k s (omega arith)

  module _ (e : ℕ) (later : m ≤ e) where
    same_or_beyond : (k : ℕ) → sub_cube k m ≢ sub_cube k e → sub_cube k m < sub_cube k e
    same_or_beyond k h =
        let l = sub_cube_le k m e later in
        ⊎_elim (λ p. p) (λ p. absurd (h (omega arith))) (cases_lt (sub_cube k m) (sub_cube k e))

    -- where m and e have parted, closing at e writes nothing
    closing_beyond : (k : ℕ) (ns : List Node) → sub_cube k m ≢ sub_cube k e → closing cells e k ns ≡ ns
    unfolding closing
    closing_beyond zero ns h = refl
    closing_beyond (suc k) ns h =
        let ih = closing_beyond k ns (parts_down m e k h) in
        let f = turn_free cells k (sub_cube (suc k) e) (closing cells e k ns) (beyond_free (suc k) (sub_cube (suc k) e) (same_or_beyond (suc k) h)) in
        elim (ends (suc k) e) as (λ t. cond t (turn cells k (sub_cube (suc k) e) (closing cells e k ns)) (closing cells e k ns) ≡ ns)
        [ true ↦ f ∙ ih | false ↦ ih ]

    -- and the codes stay parted
    still_parted : (k : ℕ) → sub_cube k m ≢ sub_cube k e → sub_cube k m ≢ sub_cube k (e + 1)
    still_parted k h q =
        let a = same_or_beyond k h in
        let b = sub_cube_le k e (e + 1) (omega arith) in
        omega arith

    carried_next : (k : ℕ) (ns : List Node) → sub_cube k m ≢ sub_cube k e → carried cells m e k ns ≡ carried cells m (e + 1) k ns
    unfolding carried
    carried_next zero ns h = refl
    carried_next (suc k) ns h =
        cond-false (eqb (sub_cube (suc k) m) (sub_cube (suc k) e)) _ _ (ne_eqb _ _ h)
        ∙ ap (turn cells k (sub_cube (suc k) m)) (carried_next k ns (parts_down m e k h))
        ∙ sym (cond-false (eqb (sub_cube (suc k) m) (sub_cube (suc k) (e + 1))) _ _ (ne_eqb _ _ (still_parted (suc k) h)))

    -- one code on
    carried_step : (k : ℕ) (ns : List Node) → closing cells e k (carried cells m e k ns) ≡ carried cells m (e + 1) k ns
    unfolding closing carried
    carried_step zero ns = refl
    carried_step (suc k) ns =
        ⊎_elim
        (λ q.
        let u : carried cells m e (suc k) ns ≡ carried cells m e k ns = cond-true (eqb (sub_cube (suc k) m) (sub_cube (suc k) e)) _ _ (eq-eqb _ _ q) in
        ap (closing cells e (suc k)) u
        ∙ ap (λ ms. cond (ends (suc k) e) (turn cells k (sub_cube (suc k) e) ms) ms) (carried_step k ns)
        ∙ ⊎_elim
        (λ t.
        let n = ends_next (suc k) e t in
        cond-true (ends (suc k) e) _ _ t
        ∙ ap (λ s. turn cells k s (carried cells m (e + 1) k ns)) (sym q)
        ∙ sym (cond-false (eqb (sub_cube (suc k) m) (sub_cube (suc k) (e + 1))) _ _ (ne_eqb _ _ (λ z. omega arith))))
        (λ t.
        let n = goes_on (suc k) e t in
        cond-false (ends (suc k) e) _ _ t
        ∙ sym (cond-true (eqb (sub_cube (suc k) m) (sub_cube (suc k) (e + 1))) _ _ (eq-eqb _ _ (q ∙ sym n))))
        (cases_Bool (ends (suc k) e)))
        (λ q. closing_beyond (suc k) (carried cells m e (suc k) ns) q ∙ carried_next (suc k) ns q)
        (cases_eq (sub_cube (suc k) m) (sub_cube (suc k) e))

  -- at m itself nothing has parted
  carried_none : (k : ℕ) (ns : List Node) → carried cells m m k ns ≡ ns
  unfolding carried
  carried_none zero ns = refl
  carried_none (suc k) ns = cond-true (eqb (sub_cube (suc k) m) (sub_cube (suc k) m)) _ _ (eq-eqb _ _ refl) ∙ carried_none k ns

  carried_below : (L n : ℕ) → below L cells (m + n) ≡ carried cells m (m + n) L (below L cells m)
  unfolding below
  carried_below L zero = rw (add-zero m) (sym (carried_none L (below L cells m)))
  carried_below L (suc n) =
      let f : m + suc n ≡ suc (m + n) = add-suc m n in
      let g : m + n + 1 ≡ m + suc n = omega arith in
      ap (below L cells) f
      ∙ ap (closing cells (m + n) L) (carried_below L n)
      ∙ carried_step (m + n) (omega arith) L (below L cells m)
      ∙ ap (λ c. carried cells m c L (below L cells m)) g

  module _ (c : ℕ) where
    carried_all : (p : ℕ) (ns : List Node) → ((k : ℕ) → 1 ≤ k → k ≤ p → sub_cube k m ≢ sub_cube k c) → carried cells m c p ns ≡ carry cells m p ns
    unfolding carried carry
    carried_all zero ns h = refl
    carried_all (suc p) ns h =
        cond-false (eqb (sub_cube (suc p) m) (sub_cube (suc p) c)) _ _ (ne_eqb _ _ (h (suc p) (omega arith) (omega arith)))
        ∙ ap (turn cells p (sub_cube (suc p) m)) (carried_all p ns (λ k a b. h k a (omega arith)))

    carried_rest : (p n : ℕ) (ns : List Node) → ((k : ℕ) → p < k → k ≤ p + n → sub_cube k m ≡ sub_cube k c) → carried cells m c (p + n) ns ≡ carried cells m c p ns
    unfolding carried
    carried_rest p zero ns h = ap (λ k. carried cells m c k ns) (add-zero p)
    carried_rest p (suc n) ns h =
        let f : p + suc n ≡ suc (p + n) = add-suc p n in
        ap (λ k. carried cells m c k ns) f
        ∙ cond-true (eqb (sub_cube (suc (p + n)) m) (sub_cube (suc (p + n)) c)) _ _ (eq-eqb _ _ (h (suc (p + n)) (omega arith) (omega arith)))
        ∙ carried_rest p n ns (λ k a b. h k a (omega arith))

-- the carrying lemma: from m to c the list takes the turns of the sub-cubes of m at the levels 1 to p at which m and c part
pub carrying : (L : ℕ) (cells : List ℕ) (m c p : ℕ) → AllUpTo cells m → m < c → p ≤ L
    → ((k : ℕ) → 1 ≤ k → k ≤ p → sub_cube k m ≢ sub_cube k c)
    → ((k : ℕ) → p < k → k ≤ L → sub_cube k m ≡ sub_cube k c)
    → below L cells c ≡ carry cells m p (below L cells m)
carrying L cells m c p last h l parted together =
    let e : m + (c - m) ≡ c = omega arith in
    let f : p + (L - p) ≡ L = omega arith in
    subst (λ d. below L cells d ≡ carried cells m d L (below L cells m)) e (carried_below cells m last L (c - m))
    ∙ ap (λ j. carried cells m c j (below L cells m)) (sym f)
    ∙ carried_rest cells m last c p (L - p) (below L cells m) (λ k a b. together k a (omega arith))
    ∙ carried_all cells m last c p (below L cells m) parted

-- ---- the same, from one level at which they part and one at which they do not

pub parts_under : (a b k n : ℕ) → sub_cube (k + n) a ≢ sub_cube (k + n) b → sub_cube k a ≢ sub_cube k b
parts_under a b k zero h = subst (λ j. sub_cube j a ≢ sub_cube j b) (add-zero k) h
parts_under a b k (suc n) h = parts_under a b k n (parts_down a b (k + n) (subst (λ j. sub_cube j a ≢ sub_cube j b) (add-suc k n) h))

pub together_over : (a b k n : ℕ) → sub_cube k a ≡ sub_cube k b → sub_cube (k + n) a ≡ sub_cube (k + n) b
together_over a b k zero h = subst (λ j. sub_cube j a ≡ sub_cube j b) (sym (add-zero k)) h
together_over a b k (suc n) h =
    subst (λ j. sub_cube j a ≡ sub_cube j b) (sym (add-suc k n))
    (up (k + n) a ∙ ap (λ c. c / 8) (together_over a b k n h) ∙ sym (up (k + n) b))

-- m and c part on level p, and lie together on the next one, if there is one
pub carrying_to : (L : ℕ) (cells : List ℕ) (m c p : ℕ) → AllUpTo cells m → m < c → p ≤ L
    → sub_cube p m ≢ sub_cube p c → (p < L → sub_cube (suc p) m ≡ sub_cube (suc p) c)
    → below L cells c ≡ carry cells m p (below L cells m)
carrying_to L cells m c p last h l parted together =
    carrying L cells m c p last h l
    (λ k a b. let e : p ≡ k + (p - k) = omega arith in parts_under m c k (p - k) (subst (λ j. sub_cube j m ≢ sub_cube j c) e parted))
    (λ k a b. let e : suc p + (k - suc p) ≡ k = omega arith in
    subst (λ j. sub_cube j m ≡ sub_cube j c) e (together_over m c (suc p) (k - suc p) (together (omega arith))))

-- ---- at which levels codes part

-- different codes part on level 0
pub start_parted : (m c : ℕ) → m < c → sub_cube 0 m ≢ sub_cube 0 c
start_parted m c h e = let f : m ≡ c = sym (div-one m) ∙ e ∙ div-one c in omega arith

-- codes of one hall part below its top level only
pub parted_below : (L m c p : ℕ) → m < 8 ^ L → c < 8 ^ L → sub_cube p m ≢ sub_cube p c → p < L
parted_below L m c p h l n =
    ⊎_elim (λ b. b)
    (λ b. let e : L + (p - L) ≡ p = omega arith in
    absurd (n (subst (λ k. sub_cube k m ≡ sub_cube k c) e (together_over m c L (p - L) (div-eq_of_lt h ∙ sym (div-eq_of_lt l))))))
    (cases_lt p L)

-- the code after the last one parts from every code of the hall on all levels
pub end_parted : (L m k : ℕ) → m < 8 ^ L → k ≤ L → sub_cube k m ≢ sub_cube k (8 ^ L)
end_parted L m k h l =
    let e : L ≡ k + (L - k) = omega arith in
    parts_under m (8 ^ L) k (L - k) (subst (λ j. sub_cube j m ≢ sub_cube j (8 ^ L)) e top)
  where
    top : sub_cube L m ≢ sub_cube L (8 ^ L)
    top q = let a = div-eq_of_lt h in let b = div_self {n = 8 ^ L} (omega arith) in omega arith

-- sealing closes every level
pub sealing : (L : ℕ) (cells : List ℕ) (m : ℕ) → AllUpTo cells m → m < 8 ^ L → sealed L cells ≡ carry cells m L (below L cells m)
sealing L cells m last h =
    carrying_to L cells m (8 ^ L) L last h (omega arith) (end_parted L m L h (omega arith)) (λ l. absurd (omega arith))
