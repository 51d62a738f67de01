-- The list below a code depends on no cell at or above that code.
use Rattle.std.proofs.Common.{◌≡◌, ℕ, zero, suc, ◌+◌, ◌*◌, ◌<◌, ◌≤◌, Bool, true, false, cond, ◌&&◌, ltb, leb, List, [], ◌∷◌, ◌++◌, sym, refl, ap, ◌∙◌, ap₂, arith}
use Rattle.std.proofs.lemmas.Bool.Decides.{nat_tests}
use Rattle.cells.specs.SubCubes.{sub_cube}
use Rattle.cells.proofs.Digits.{digits_same}
use Rattle.nodes.specs.Records.{none}
use Rattle.nodes.specs.declared.node.Node.{Node}
use Rattle.dag.specs.Laws.{SameBelow}
use Rattle.dag.specs.Sets.{count}
use Rattle.dag.specs.Records.{first, occupied, eight, node_of, link_to, record_of, lowest}
use Rattle.dag.specs.Sealed.{written, turn, ends, closing, below}
use Rattle.dag.proofs.Visits.{each, visit}
use Rattle.dag.proofs.Spans.{first_le, first_next, ends_code}
use Rattle.dag.proofs.Empty.{free_count, turn_free}

-- eight numbers that agree
pub eight_equal : (f g : ℕ → ℕ) → ((i : ℕ) → i < 8 → f i ≡ g i) → eight f ≡ eight g
eight_equal f g h =
    λ j. h 0 (omega arith) j ∷ h 1 (omega arith) j ∷ h 2 (omega arith) j ∷ h 3 (omega arith) j ∷ h 4 (omega arith) j ∷ h 5 (omega arith) j ∷ h 6 (omega arith) j ∷ h 7 (omega arith) j ∷ []

-- two choices by the same test
cond_equal : (a b : Bool) (x y z : ℕ) → a ≡ b → x ≡ y → cond a x z ≡ cond b y z
cond_equal a b x y z e f = ap₂ (λ t u. cond t u z) e f

-- a step that is taken only where a test is true
cond_when : (b : Bool) (x y z : List Node) → (b ≡ true → x ≡ y) → cond b x z ≡ cond b y z
cond_when true x y z h = h refl
cond_when false x y z h = refl

cond_twice : (b : Bool) (x : List Node) → cond b x x ≡ x
cond_twice true x = refl
cond_twice false x = refl

each_agree : (f g : ℕ → List Node → List Node) (s n : ℕ) (ns : List Node) → ((i : ℕ) → i < n → (ms : List Node) → f (s + i) ms ≡ g (s + i) ms) → each f s n ns ≡ each g s n ns
unfolding each
each_agree f g s zero ns h = refl
each_agree f g s (suc n) ns h = h n (omega arith) (each f s n ns) ∙ ap (g (s + n)) (each_agree f g s n ns (λ i l ms. h i (omega arith) ms))

module _ (cells others : List ℕ) (m : ℕ) (same : SameBelow cells others m) where
  pub occupied_same : (k s : ℕ) → first k (s + 1) ≤ m → occupied cells k s ≡ occupied others k s
  occupied_same k s h = ap (ltb 0) (same (first k s) (first k (s + 1)) h)

  child_same : (k s i : ℕ) → i < 8 → first k (8 * s + 8) ≤ m → occupied cells k (8 * s + i) ≡ occupied others k (8 * s + i)
  child_same k s i l h = occupied_same k (8 * s + i) (omega (arith, first_le k (8 * s + i + 1) (8 * s + 8) (omega arith)))

  node_same : (k s : ℕ) (f g : ℕ → ℕ) → first k (8 * s + 8) ≤ m → ((i : ℕ) → i < 8 → f (8 * s + i) ≡ g (8 * s + i)) → node_of cells k s f ≡ node_of others k s g
  node_same k s f g h e =
      let a = digits_same 2 (λ i. cond (occupied cells k (8 * s + i)) 1 0) (λ i. cond (occupied others k (8 * s + i)) 1 0) 8
      (λ i l. cond_equal _ _ 1 1 0 (child_same k s i l h) refl) in
      let b = eight_equal (λ i. cond (occupied cells k (8 * s + i)) (f (8 * s + i)) none) (λ i. cond (occupied others k (8 * s + i)) (g (8 * s + i)) none)
      (λ i l. cond_equal _ _ _ _ none (child_same k s i l h) (e i l)) in
      let c = eight_equal
      (λ i. cond (occupied cells k (8 * s + i)) (count cells (first k (8 * s)) (first k (8 * s + i))) 0)
      (λ i. cond (occupied others k (8 * s + i)) (count others (first k (8 * s)) (first k (8 * s + i))) 0)
      (λ i l. cond_equal _ _ _ _ 0 (child_same k s i l h)
      (same (first k (8 * s)) (first k (8 * s + i)) (omega (arith, first_le k (8 * s + i) (8 * s + 8) (omega arith))))) in
      λ j. record { level = suc k; mask = a j; links = b j; offsets = c j }

  pub link_same : (ns : List Node) (k s : ℕ) → first k (s + 1) ≤ m → link_to cells ns k s ≡ link_to others ns k s
  unfolding link_to
  link_same ns zero s h = refl
  link_same ns (suc k) s h =
      let n : first k (8 * s + 8) ≤ m = omega (arith, first_next k s) in
      ap (lowest ns) (node_same k s (link_to cells ns k) (link_to others ns k) n
      (λ i l. link_same ns k (8 * s + i) (omega (arith, first_le k (8 * s + i + 1) (8 * s + 8) (omega arith)))))

  pub record_same : (ns : List Node) (k s : ℕ) → first (suc k) (s + 1) ≤ m → record_of cells ns k s ≡ record_of others ns k s
  record_same ns k s h =
      let n : first k (8 * s + 8) ≤ m = omega (arith, first_next k s) in
      node_same k s (link_to cells ns k) (link_to others ns k) n
      (λ i l. link_same ns k (8 * s + i) (omega (arith, first_le k (8 * s + i + 1) (8 * s + 8) (omega arith))))

  pub turn_same : (k s : ℕ) (ns : List Node) → first (suc k) (s + 1) ≤ m → turn cells k s ns ≡ turn others k s ns
  unfolding turn
  turn_same k s ns h = ap₂ (λ t a. cond t (written ns a) ns) (occupied_same (suc k) s h) (record_same ns k s h)

  pub visit_same : (k s : ℕ) (ns : List Node) → first k (s + 1) ≤ m → visit cells k s ns ≡ visit others k s ns
  unfolding visit
  visit_same zero s ns h = refl
  visit_same (suc k) s ns h =
      let n = first_next k s in
      turn_same k s (each (visit cells k) (8 * s) 8 ns) h
      ∙ ap (turn others k s)
      (each_agree (visit cells k) (visit others k) (8 * s) 8 ns
      (λ i l ms. visit_same k (8 * s + i) ms (omega (arith, first_le k (8 * s + i + 1) (8 * s + 8) (omega arith)))))

  pub closing_same : (code k : ℕ) (ns : List Node) → code < m → closing cells code k ns ≡ closing others code k ns
  unfolding closing
  closing_same code zero ns h = refl
  closing_same code (suc k) ns h =
      let e = closing_same code k ns h in
      cond_when (ends (suc k) code) _ _ (closing cells code k ns)
      (λ t. turn_same k (sub_cube (suc k) code) (closing cells code k ns) (omega (arith, ends_code (suc k) code t)))
      ∙ ap (λ ms. cond (ends (suc k) code) (turn others k (sub_cube (suc k) code) ms) ms) e

  pub below_same : (L n : ℕ) → n ≤ m → below L cells n ≡ below L others n
  unfolding below
  below_same L zero h = refl
  below_same L (suc n) h = closing_same n L (below L cells n) (omega arith) ∙ ap (closing others n L) (below_same L n (omega arith))

-- the list below m, for two sets with the same cells below m
pub below_depends : (L : ℕ) (cells others : List ℕ) (m : ℕ) → SameBelow cells others m → below L cells m ≡ below L others m
below_depends L cells others m same = below_same cells others m same L m (omega arith)

-- ---- one more cell

one_above : (c a b : ℕ) → b ≤ c → cond {A = ℕ} (leb a c && ltb c b) 1 0 ≡ 0
one_above c a b h = grind (arith, nat_tests)

pub count_push : (cells : List ℕ) (c a b : ℕ) → b ≤ c → count (cells ++ c ∷ []) a b ≡ count cells a b
unfolding count
count_push [] c a b h = rw (one_above c a b h) refl
count_push (d ∷ cells) c a b h = ap (λ n. cond {A = ℕ} (leb a d && ltb d b) 1 0 + n) (count_push cells c a b h)

pub push_same : (cells : List ℕ) (m c : ℕ) → m ≤ c → SameBelow cells (cells ++ c ∷ []) m
push_same cells m c h a b l = sym (count_push cells c a b (omega arith))

pub below_push : (L : ℕ) (cells : List ℕ) (m c : ℕ) → m ≤ c → below L (cells ++ c ∷ []) m ≡ below L cells m
below_push L cells m c h = sym (below_depends L cells (cells ++ c ∷ []) m (push_same cells m c h))

-- ---- no cells

module _ (cells : List ℕ) (m : ℕ) (free : (a b : ℕ) → b ≤ m → count cells a b ≡ 0) where
  closing_free : (code k : ℕ) (ns : List Node) → code < m → closing cells code k ns ≡ ns
  unfolding closing
  closing_free code zero ns h = refl
  closing_free code (suc k) ns h =
      cond_when (ends (suc k) code) _ (closing cells code k ns) (closing cells code k ns)
      (λ t. turn_free cells k (sub_cube (suc k) code) (closing cells code k ns)
      (free_count cells (suc k) (sub_cube (suc k) code)
      (free (first (suc k) (sub_cube (suc k) code)) (first (suc k) (sub_cube (suc k) code + 1)) (omega (arith, ends_code (suc k) code t)))))
      ∙ cond_twice (ends (suc k) code) (closing cells code k ns)
      ∙ closing_free code k ns h

  -- where no cell is below m, no record is
  pub below_free : (L n : ℕ) → n ≤ m → below L cells n ≡ []
  unfolding below
  below_free L zero h = refl
  below_free L (suc n) h = closing_free n L (below L cells n) (omega arith) ∙ below_free L n (omega arith)

pub below_none : (L m : ℕ) → below L [] m ≡ []
below_none L m = below_free [] m (λ a b l. none_there a b) L m (omega arith)
  where
    none_there : (a b : ℕ) → count [] a b ≡ 0
    none_there a b = unfold count in refl
