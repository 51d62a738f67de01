-- A sub-cube's record tells which of its codes are cells, and depends on nothing else.
use Rattle.std.proofs.Common.{◌≡◌, ℕ, zero, suc, ◌+◌, ◌*◌, ◌/◌, ◌%◌, ◌^◌, ◌<◌, ◌≤◌, Bool, true, false, cond, ◌&&◌, ◌||◌, eqb, ltb, leb, List, [], ◌∷◌, sym, refl, ap, ◌∙◌, subst, ap₂, ⊎_elim, mul-le-mul_right, add-mul, one-mul, div-add-mod', mul-one, arith}
use native.Mathlib.Nat.{pow-succ'}
use lib.Arith.{digits_lt}
use Rattle.std.proofs.lemmas.Bool.{ltb-true, ltb-false, le-ltb, cond-true, cases_Bool}
use Rattle.std.proofs.lemmas.Bool.Decides.{nat_tests}
use Rattle.std.proofs.lemmas.Nat.{div_below, mod_below}
use Rattle.cells.specs.Hall.{bit}
use Rattle.cells.proofs.Digits.{base_pos, digits_same}
use Rattle.nodes.specs.Records.{none, children}
use Rattle.nodes.specs.declared.node.Node.{Node}
use Rattle.dag.specs.Sets.{Rising, has, count, holds}
use Rattle.dag.specs.Rules.{node_at, link_of}
use Rattle.dag.specs.Records.{lowest, first, occupied, eight, node_of, link_to, record_of}
use Rattle.dag.proofs.Counts.{count_split, count_none, count_wider, has_holds}
use Rattle.dag.proofs.Visits.{times_eight}
use Rattle.dag.proofs.Known.{Known}
use Rattle.dag.proofs.Parts.{mask_bit, link_is, some_occupied}
use Rattle.dag.proofs.Sound.{link_node}

-- ---- counts of a rising list

-- no cell of a rising list stands at or below the one before
pub above_first : (c : ℕ) (cells : List ℕ) (b : ℕ) → Rising (c ∷ cells) → b ≤ c + 1 → count cells 0 b ≡ 0
unfolding count
above_first c [] b r h = refl
above_first c (d ∷ cells) b (l, r) h =
    let e = above_first d cells b r (omega arith) in
    let f : cond {A = ℕ} (leb 0 d && ltb d b) 1 0 ≡ 0 = grind (arith, nat_tests) in
    omega arith

pub rising_tail : (c : ℕ) (cells : List ℕ) → Rising (c ∷ cells) → Rising cells
rising_tail c [] r = tt
rising_tail c (d ∷ cells) (l, r) = r

one_more : (d c : ℕ) (t : Bool) (n : ℕ) → n ≡ cond {A = ℕ} t 1 0 → (d ≡ c → n ≡ 0) → cond {A = ℕ} (leb c d && ltb d (c + 1)) 1 0 + n ≡ cond {A = ℕ} (eqb d c || t) 1 0
one_more d c t n e f = grind (arith, nat_tests)

-- a code counts once
pub count_one : (cells : List ℕ) (c : ℕ) → Rising cells → count cells c (c + 1) ≡ cond {A = ℕ} (has cells c) 1 0
unfolding count has
count_one [] c r = refl
count_one (d ∷ cells) c r =
    one_more d c (has cells c) (count cells c (c + 1)) (count_one cells c (rising_tail d cells r))
    (λ e. let z = above_first d cells (c + 1) r (omega arith) in
    let s = count_split cells 0 c (c + 1) (omega arith) (omega arith) in
    omega arith)

-- ---- two stretches of codes with the same cells

-- the n codes from a on and the n codes from b on are cells of A and of B alike
abbrev pub Alike : List ℕ → List ℕ → ℕ → ℕ → ℕ → Type 0
Alike A B a b n = (o : ℕ) → o < n → has A (a + o) ≡ has B (b + o)

module _ (A B : List ℕ) (risingA : Rising A) (risingB : Rising B) where
  -- they hold equally many
  pub count_alike : (a b n : ℕ) → Alike A B a b n → (m : ℕ) → m ≤ n → count A a (a + m) ≡ count B b (b + m)
  count_alike a b n h zero l =
      count_none A a (a + 0) (omega arith) ∙ sym (count_none B b (b + 0) (omega arith))
  count_alike a b n h (suc m) l =
      let e : a + suc m ≡ a + m + 1 = omega arith in
      let f : b + suc m ≡ b + m + 1 = omega arith in
      let p = count_split A a (a + m) (a + m + 1) (omega arith) (omega arith) in
      let q = count_split B b (b + m) (b + m + 1) (omega arith) (omega arith) in
      let u : count A (a + m) (a + m + 1) ≡ count B (b + m) (b + m + 1) =
      count_one A (a + m) risingA ∙ ap (λ t. cond {A = ℕ} t 1 0) (h m (omega arith)) ∙ sym (count_one B (b + m) risingB) in
      let v = count_alike a b n h m (omega arith) in
      rw (e, f) (omega arith)

-- the codes of sub-cube s of level k and those of sub-cube t are cells of A and of B alike
abbrev pub SameCells : List ℕ → List ℕ → ℕ → ℕ → ℕ → Type 0
SameCells A B k s t = Alike A B (first k s) (first k t) (8 ^ k)

-- code o of child i, counted in the child and in its parent
pub child_code : (k s i o : ℕ) → first k (8 * s + i) + o ≡ first (suc k) s + (i * 8 ^ k + o)
child_code k s i o = rw (times_eight k s, add-mul (8 * s) i (8 ^ k)) (omega arith)

pub child_inside : (k i o : ℕ) → i < 8 → o < 8 ^ k → i * 8 ^ k + o < 8 ^ suc k
child_inside k i o h l = rw (pow-succ' 8 k) (digits_lt h l)

pub same_child : (A B : List ℕ) (k s t i : ℕ) → i < 8 → SameCells A B (suc k) s t → SameCells A B k (8 * s + i) (8 * t + i)
same_child A B k s t i l h o b =
    ap (has A) (child_code k s i o) ∙ h (i * 8 ^ k + o) (child_inside k i o l b) ∙ sym (ap (has B) (child_code k t i o))

-- where the next sub-cube begins
pub first_next : (k s n : ℕ) → first k (s + n) ≡ first k s + n * 8 ^ k
first_next k s n = add-mul s n (8 ^ k)

-- ---- sub-cubes with the same cells have the same record

eight_alike : (f g : ℕ → ℕ) → ((i : ℕ) → i < 8 → f i ≡ g i) → eight f ≡ eight g
eight_alike f g h =
    λ j. h 0 (omega arith) j ∷ h 1 (omega arith) j ∷ h 2 (omega arith) j ∷ h 3 (omega arith) j ∷ h 4 (omega arith) j ∷ h 5 (omega arith) j ∷ h 6 (omega arith) j ∷ h 7 (omega arith) j ∷ []

module _ (A B : List ℕ) (risingA : Rising A) (risingB : Rising B) where
  occupied_alike : (k s t : ℕ) → SameCells A B k s t → occupied A k s ≡ occupied B k t
  occupied_alike k s t h =
      let c = count_alike A B risingA risingB (first k s) (first k t) (8 ^ k) h (8 ^ k) (omega arith) in
      let e : first k (s + 1) ≡ first k s + 8 ^ k = first_next k s 1 ∙ ap (λ n. first k s + n) (one-mul (8 ^ k)) in
      let f : first k (t + 1) ≡ first k t + 8 ^ k = first_next k t 1 ∙ ap (λ n. first k t + n) (one-mul (8 ^ k)) in
      ap (λ b. holds A (first k s) b) e ∙ ap (ltb 0) c ∙ sym (ap (λ b. holds B (first k t) b) f)

  offset_alike : (k s t i : ℕ) → i < 8 → SameCells A B (suc k) s t
      → count A (first k (8 * s)) (first k (8 * s + i)) ≡ count B (first k (8 * t)) (first k (8 * t + i))
  offset_alike k s t i l h =
      let low : i * 8 ^ k ≤ 8 ^ suc k = rw (pow-succ' 8 k) (mul-le-mul_right (8 ^ k) (omega arith)) in
      let g : Alike A B (first k (8 * s)) (first k (8 * t)) (8 ^ suc k) =
      subst (λ b. Alike A B (first k (8 * s)) b (8 ^ suc k)) (times_eight k t) (subst (λ a. Alike A B a (first (suc k) t) (8 ^ suc k)) (times_eight k s) h) in
      ap (count A (first k (8 * s))) (first_next k (8 * s) i)
      ∙ count_alike A B risingA risingB (first k (8 * s)) (first k (8 * t)) (8 ^ suc k) g (i * 8 ^ k) low
      ∙ sym (ap (count B (first k (8 * t))) (first_next k (8 * t) i))

  node_alike : (k s t : ℕ) (f g : ℕ → ℕ) → SameCells A B (suc k) s t → ((i : ℕ) → i < 8 → f (8 * s + i) ≡ g (8 * t + i)) → node_of A k s f ≡ node_of B k t g
  node_alike k s t f g h links =
      let o : (i : ℕ) → i < 8 → occupied A k (8 * s + i) ≡ occupied B k (8 * t + i) = λ i l. occupied_alike k (8 * s + i) (8 * t + i) (same_child A B k s t i l h) in
      let u = digits_same 2 (λ i. cond (occupied A k (8 * s + i)) 1 0) (λ i. cond (occupied B k (8 * t + i)) 1 0) children (λ i l. ap (λ b. cond {A = ℕ} b 1 0) (o i l)) in
      let v = eight_alike _ _ (λ i l. ap₂ (λ b m. cond b m none) (o i l) (links i l)) in
      let w = eight_alike _ _ (λ i l. ap₂ (λ b m. cond {A = ℕ} b m 0) (o i l) (offset_alike k s t i l h)) in
      λ j. record { level = suc k; mask = u j; links = v j; offsets = w j }

  -- against one list, the link depends on the cells inside alone
  pub link_alike : (ns : List Node) (k s t : ℕ) → SameCells A B k s t → link_to A ns k s ≡ link_to B ns k t
  unfolding link_to
  link_alike ns zero s t h = refl
  link_alike ns (suc k) s t h =
      ap (lowest ns) (node_alike k s t (link_to A ns k) (link_to B ns k) h (λ i l. link_alike ns k (8 * s + i) (8 * t + i) (same_child A B k s t i l h)))

  -- and so does the record
  pub record_alike : (ns : List Node) (k s t : ℕ) → SameCells A B (suc k) s t → record_of A ns k s ≡ record_of B ns k t
  record_alike ns k s t h =
      node_alike k s t (link_to A ns k) (link_to B ns k) h (λ i l. link_alike ns k (8 * s + i) (8 * t + i) (same_child A B k s t i l h))

-- ---- sub-cubes with the same record have the same cells

-- what all eight children have in common with others, their parents have
pub same_parent : (A B : List ℕ) (k s t : ℕ) → ((i : ℕ) → i < 8 → SameCells A B k (8 * s + i) (8 * t + i)) → SameCells A B (suc k) s t
same_parent A B k s t h o l =
    let pos = base_pos 8 k (omega arith) in
    let i = o / 8 ^ k in
    let u = o % 8 ^ k in
    let e : i * 8 ^ k + u ≡ o = div-add-mod' o (8 ^ k) in
    let small : i < 8 = div_below o (8 ^ k) 8 pos (subst (λ n. o < n) (pow-succ' 8 k) l) in
    let p : first (suc k) s + o ≡ first k (8 * s + i) + u = ap (λ n. first (suc k) s + n) (sym e) ∙ sym (child_code k s i u) in
    let q : first (suc k) t + o ≡ first k (8 * t + i) + u = ap (λ n. first (suc k) t + n) (sym e) ∙ sym (child_code k t i u) in
    ap (has A) p ∙ h i small u (mod_below o (8 ^ k) pos) ∙ sym (ap (has B) q)

-- a sub-cube that is not occupied has no cell
pub free_cell : (cells : List ℕ) (k s : ℕ) → occupied cells k s ≡ false → (o : ℕ) → o < 8 ^ k → has cells (first k s + o) ≡ false
free_cell cells k s h o l =
    let z = ltb-false 0 (count cells (first k s) (first k (s + 1))) h in
    let e = first_next k s 1 in
    let f = one-mul (8 ^ k) in
    let w = count_wider cells (first k s) (first k s + o) (first k s + o + 1) (first k (s + 1)) (omega arith) (omega arith) (omega arith) in
    has_holds cells (first k s + o) ∙ le-ltb 0 (count cells (first k s + o) (first k s + o + 1)) (omega arith)

-- a sub-cube of level 0 is one code
pub cell_occupied : (cells : List ℕ) (c : ℕ) → occupied cells 0 c ≡ has cells c
cell_occupied cells c = ap₂ (holds cells) (mul-one c) (mul-one (c + 1)) ∙ sym (has_holds cells c)

one_cell : (cells : List ℕ) (s o : ℕ) → occupied cells 0 s ≡ true → o < 8 ^ 0 → has cells (first 0 s + o) ≡ true
one_cell cells s o h l =
    let e : first 0 s + o ≡ s = omega arith in
    ap (has cells) e ∙ sym (cell_occupied cells s) ∙ h

-- an occupied sub-cube has a cell
pub occupied_cell : (cells : List ℕ) (k s : ℕ) → occupied cells k s ≡ true → (o : ℕ) × (o < 8 ^ k) × (has cells (first k s + o) ≡ true)
occupied_cell cells k s h =
    let a : first 0 (first k s) ≡ first k s = mul-one (first k s) in
    let b : first 0 (first k s + 8 ^ k) ≡ first k (s + 1) =
    mul-one (first k s + 8 ^ k) ∙ ap (λ n. first k s + n) (sym (one-mul (8 ^ k))) ∙ sym (first_next k s 1) in
    let r = some_occupied cells 0 (first k s) (8 ^ k) (rw (a, b) (ltb-true 0 (count cells (first k s) (first k (s + 1))) h)) in
    (r.0, r.1, sym (cell_occupied cells (first k s + r.0)) ∙ r.2)

bit_told : (x y : Bool) → cond {A = ℕ} x 1 0 ≡ cond {A = ℕ} y 1 0 → x ≡ y
bit_told true true e = refl
bit_told true false e = absurd (omega arith)
bit_told false true e = absurd (omega arith)
bit_told false false e = refl

module _ (A B : List ℕ) (ns : List Node) where
  child_told : (k s t i : ℕ) → i < 8 → record_of A ns k s ≡ record_of B ns k t → occupied A k (8 * s + i) ≡ occupied B k (8 * t + i)
  child_told k s t i l e =
      bit_told _ _ (sym (mask_bit A k s (link_to A ns k) i l) ∙ ap (λ a. bit i a.mask) e ∙ mask_bit B k t (link_to B ns k) i l)

  link_told : (k s t i : ℕ) → i < 8 → record_of A ns k s ≡ record_of B ns k t → occupied A k (8 * s + i) ≡ true → occupied B k (8 * t + i) ≡ true
      → link_to A ns k (8 * s + i) ≡ link_to B ns k (8 * t + i)
  link_told k s t i l e p q =
      sym (cond-true (occupied A k (8 * s + i)) (link_to A ns k (8 * s + i)) none p)
      ∙ sym (link_is A k s (link_to A ns k) i l) ∙ ap (λ a. link_of a i) e ∙ link_is B k t (link_to B ns k) i l
      ∙ cond-true (occupied B k (8 * t + i)) (link_to B ns k (8 * t + i)) none q

  -- against one list in which both are known, the link tells the cells inside
  pub cells_told : (k s t : ℕ) → Known A ns k s → Known B ns k t → occupied A k s ≡ true → occupied B k t ≡ true
      → link_to A ns k s ≡ link_to B ns k t → SameCells A B k s t
  cells_told zero s t a b p q e = λ o l. one_cell A s o p l ∙ sym (one_cell B t o q l)
  cells_told (suc k) s t a b p q e =
      let f : record_of A ns k s ≡ record_of B ns k t = sym (link_node A ns k s a) ∙ ap (node_at ns) e ∙ link_node B ns k t b in
      same_parent A B k s t (λ i l.
      let g = child_told k s t i l f in
      ⊎_elim
      (λ u. let v = sym g ∙ u in
      cells_told k (8 * s + i) (8 * t + i) (a.1 i l u) (b.1 i l v) u v (link_told k s t i l f u v))
      (λ u o r. free_cell A k (8 * s + i) u o r ∙ sym (free_cell B k (8 * t + i) (sym g ∙ u) o r))
      (cases_Bool (occupied A k (8 * s + i))))
