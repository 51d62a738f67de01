-- Rows: the beginnings of records.
use Rattle.std.proofs.Common.{◌≡◌, ℕ, zero, suc, ◌+◌, ◌*◌, ◌%◌, ◌^◌, ◌<◌, ◌≤◌, Bool, true, false, cond, ◌&&◌, ltb, ◌≢◌, List, [], ◌∷◌, set, sym, refl, ap, ◌∙◌, subst, ap₂, ⊎_elim, add_assoc, mod-lt, suc-mul, div-add-mod', add-one, arith}
use Rattle.std.proofs.lemmas.Bool.{lt-ltb, le-ltb, ltb-true, and_parts, and_from, and_left, and_right, cases_lt, cases_eq}
use Rattle.cells.specs.Hall.{from_digits}
use Rattle.cells.specs.SubCubes.{sub_cube}
use Rattle.cells.proofs.Digits.{digits_same}
use Rattle.nodes.specs.Records.{none}
use Rattle.nodes.specs.declared.node.Node.{Node}
use Rattle.dag.specs.Sets.{count}
use Rattle.dag.specs.Records.{first, occupied, eight, link_to, record_of}
use Rattle.dag.specs.Sealed.{Begins}
use Rattle.dag.specs.Rows.{row_node, row_count, empty_row, with_child}
use Rattle.dag.proofs.Counts.{count_split, count_none, count_wider}
use Rattle.dag.proofs.Known.{Known, known_stays}
use Rattle.dag.proofs.Spans.{first_le, first_next, span_to, up}
use Rattle.dag.proofs.Visits.{times_eight}
use Rattle.dag.specs.Laws.{SameBelow}
use Rattle.dag.proofs.Depends.{eight_equal, occupied_same, link_same}
use Rattle.dag.proofs.Carry.{AllUpTo, beyond_free}

-- whether child i is one of the first n, and occupied
abbrev pub taken : List ℕ → ℕ → ℕ → ℕ → ℕ → Bool
taken cells k s n i = ltb i n && occupied cells k (8 * s + i)

-- ---- all children, and none

pub row_all : (cells : List ℕ) (ns : List Node) (k s : ℕ) → row_node cells ns k s 8 ≡ record_of cells ns k s
unfolding row_node from_digits
row_all cells ns k s = refl

pub row_none : (cells : List ℕ) (ns : List Node) (k s : ℕ) → row_node cells ns k s 0 ≡ empty_row k
unfolding row_node from_digits
row_none cells ns k s = refl

-- ---- rows that agree

cond_agree : (a b : Bool) (x y z : ℕ) → a ≡ b → (a ≡ true → x ≡ y) → cond a x z ≡ cond b y z
cond_agree a b x y z e h =
    elim a as (λ t. t ≡ b → (t ≡ true → x ≡ y) → cond t x z ≡ cond b y z)
    [ true ↦ (λ f g. ap₂ (λ u v. cond u v z) f (g refl)) | false ↦ (λ f g. ap (λ u. cond u y z) f) ] e h

module _ (cells others : List ℕ) (ns ms : List Node) (k s n j : ℕ)
    (same : (i : ℕ) → i < 8 → taken cells k s n i ≡ taken others k s j i)
    (links : (i : ℕ) → i < 8 → taken cells k s n i ≡ true → link_to cells ns k (8 * s + i) ≡ link_to others ms k (8 * s + i))
    (counts : (i : ℕ) → i < 8 → taken cells k s n i ≡ true → count cells (first k (8 * s)) (first k (8 * s + i)) ≡ count others (first k (8 * s)) (first k (8 * s + i))) where
  rows_agree : row_node cells ns k s n ≡ row_node others ms k s j
  unfolding row_node
  rows_agree =
      let a = digits_same 2 (λ i. cond (taken cells k s n i) 1 0) (λ i. cond (taken others k s j i) 1 0) 8
      (λ i l. cond_agree _ _ 1 1 0 (same i l) (λ t. refl)) in
      let b = eight_equal (λ i. cond (taken cells k s n i) (link_to cells ns k (8 * s + i)) none) (λ i. cond (taken others k s j i) (link_to others ms k (8 * s + i)) none)
      (λ i l. cond_agree _ _ _ _ none (same i l) (links i l)) in
      let c = eight_equal
      (λ i. cond (taken cells k s n i) (count cells (first k (8 * s)) (first k (8 * s + i))) 0)
      (λ i. cond (taken others k s j i) (count others (first k (8 * s)) (first k (8 * s + i))) 0)
      (λ i l. cond_agree _ _ _ _ 0 (same i l) (counts i l)) in
      λ t. record { level = suc k; mask = a t; links = b t; offsets = c t }

-- a row stays the same as the list grows, if its occupied children are known
pub row_stays : (cells : List ℕ) (ns ms : List Node) → Begins ns ms → (k s n : ℕ)
    → ((i : ℕ) → i < 8 → i < n → occupied cells k (8 * s + i) ≡ true → Known cells ns k (8 * s + i))
    → row_node cells ms k s n ≡ row_node cells ns k s n
row_stays cells ns ms grows k s n h =
    sym (rows_agree cells cells ns ms k s n n (λ i l. refl)
    (λ i l t. let p = and_parts (ltb i n) (occupied cells k (8 * s + i)) t in
    sym (known_stays cells ns ms grows k (8 * s + i) (h i l (ltb-true i n p.0) p.1)).1)
    (λ i l t. refl))

-- free children change nothing
pub row_skip : (cells : List ℕ) (ns : List Node) (k s n j : ℕ) → n ≤ j
    → ((i : ℕ) → i < 8 → n ≤ i → i < j → occupied cells k (8 * s + i) ≡ false)
    → row_node cells ns k s j ≡ row_node cells ns k s n
row_skip cells ns k s n j h free =
    rows_agree cells cells ns ns k s j n
    (λ i l.
    ⊎_elim
    (λ a. ap (λ t. t && occupied cells k (8 * s + i)) (lt-ltb i j (omega arith) ∙ sym (lt-ltb i n a)))
    (λ a. ⊎_elim
    (λ b. and_right (ltb i j) (occupied cells k (8 * s + i)) (free i l a b) ∙ sym (and_left (ltb i n) (occupied cells k (8 * s + i)) (le-ltb i n a)))
    (λ b. ap (λ t. t && occupied cells k (8 * s + i)) (le-ltb i j b ∙ sym (le-ltb i n a)))
    (cases_lt i j))
    (cases_lt i n))
    (λ i l t. refl) (λ i l t. refl)

-- a row depends on no cell at or above its end
pub row_depends : (cells others : List ℕ) (ns : List Node) (m k s n : ℕ) → SameBelow cells others m → first k (8 * s + n) ≤ m
    → row_node cells ns k s n ≡ row_node others ns k s n
row_depends cells others ns m k s n same h =
    rows_agree cells others ns ns k s n n
    (λ i l.
    ⊎_elim
    (λ a. ap (λ t. ltb i n && t) (occupied_same cells others m same k (8 * s + i) (omega (arith, first_le k (8 * s + i + 1) (8 * s + n) (omega arith)))))
    (λ a. and_left (ltb i n) (occupied cells k (8 * s + i)) (le-ltb i n a) ∙ sym (and_left (ltb i n) (occupied others k (8 * s + i)) (le-ltb i n a)))
    (cases_lt i n))
    (λ i l t.
    let b = ltb-true i n (and_parts (ltb i n) (occupied cells k (8 * s + i)) t).0 in
    link_same cells others m same ns k (8 * s + i) (omega (arith, first_le k (8 * s + i + 1) (8 * s + n) (omega arith))))
    (λ i l t.
    let b = ltb-true i n (and_parts (ltb i n) (occupied cells k (8 * s + i)) t).0 in
    same (first k (8 * s)) (first k (8 * s + i)) (omega (arith, first_le k (8 * s + i) (8 * s + n) (omega arith))))

-- ---- one more child

set_eight : (f g : ℕ → ℕ) (n v : ℕ) → n < 8 → g n ≡ v → ((i : ℕ) → i < 8 → i ≢ n → g i ≡ f i) → eight g ≡ set (eight f) n v
set_eight f g zero v l e h =
    λ j. e j ∷ h 1 (omega arith) (omega arith) j ∷ h 2 (omega arith) (omega arith) j ∷ h 3 (omega arith) (omega arith) j ∷ h 4 (omega arith) (omega arith) j ∷ h 5 (omega arith) (omega arith) j ∷ h 6 (omega arith) (omega arith) j ∷ h 7 (omega arith) (omega arith) j ∷ []
set_eight f g (suc zero) v l e h =
    λ j. h 0 (omega arith) (omega arith) j ∷ e j ∷ h 2 (omega arith) (omega arith) j ∷ h 3 (omega arith) (omega arith) j ∷ h 4 (omega arith) (omega arith) j ∷ h 5 (omega arith) (omega arith) j ∷ h 6 (omega arith) (omega arith) j ∷ h 7 (omega arith) (omega arith) j ∷ []
set_eight f g (suc (suc zero)) v l e h =
    λ j. h 0 (omega arith) (omega arith) j ∷ h 1 (omega arith) (omega arith) j ∷ e j ∷ h 3 (omega arith) (omega arith) j ∷ h 4 (omega arith) (omega arith) j ∷ h 5 (omega arith) (omega arith) j ∷ h 6 (omega arith) (omega arith) j ∷ h 7 (omega arith) (omega arith) j ∷ []
set_eight f g (suc (suc (suc zero))) v l e h =
    λ j. h 0 (omega arith) (omega arith) j ∷ h 1 (omega arith) (omega arith) j ∷ h 2 (omega arith) (omega arith) j ∷ e j ∷ h 4 (omega arith) (omega arith) j ∷ h 5 (omega arith) (omega arith) j ∷ h 6 (omega arith) (omega arith) j ∷ h 7 (omega arith) (omega arith) j ∷ []
set_eight f g (suc (suc (suc (suc zero)))) v l e h =
    λ j. h 0 (omega arith) (omega arith) j ∷ h 1 (omega arith) (omega arith) j ∷ h 2 (omega arith) (omega arith) j ∷ h 3 (omega arith) (omega arith) j ∷ e j ∷ h 5 (omega arith) (omega arith) j ∷ h 6 (omega arith) (omega arith) j ∷ h 7 (omega arith) (omega arith) j ∷ []
set_eight f g (suc (suc (suc (suc (suc zero))))) v l e h =
    λ j. h 0 (omega arith) (omega arith) j ∷ h 1 (omega arith) (omega arith) j ∷ h 2 (omega arith) (omega arith) j ∷ h 3 (omega arith) (omega arith) j ∷ h 4 (omega arith) (omega arith) j ∷ e j ∷ h 6 (omega arith) (omega arith) j ∷ h 7 (omega arith) (omega arith) j ∷ []
set_eight f g (suc (suc (suc (suc (suc (suc zero)))))) v l e h =
    λ j. h 0 (omega arith) (omega arith) j ∷ h 1 (omega arith) (omega arith) j ∷ h 2 (omega arith) (omega arith) j ∷ h 3 (omega arith) (omega arith) j ∷ h 4 (omega arith) (omega arith) j ∷ h 5 (omega arith) (omega arith) j ∷ e j ∷ h 7 (omega arith) (omega arith) j ∷ []
set_eight f g (suc (suc (suc (suc (suc (suc (suc zero))))))) v l e h =
    λ j. h 0 (omega arith) (omega arith) j ∷ h 1 (omega arith) (omega arith) j ∷ h 2 (omega arith) (omega arith) j ∷ h 3 (omega arith) (omega arith) j ∷ h 4 (omega arith) (omega arith) j ∷ h 5 (omega arith) (omega arith) j ∷ h 6 (omega arith) (omega arith) j ∷ e j ∷ []
set_eight f g (suc (suc (suc (suc (suc (suc (suc (suc n)))))))) v l e h = absurd (omega arith)

-- one digit that rises by one
digit_more : (b : ℕ) (d e : ℕ → ℕ) (l n : ℕ) → n < l → e n ≡ d n + 1 → ((i : ℕ) → i < l → i ≢ n → e i ≡ d i) → from_digits b e l ≡ from_digits b d l + b ^ n
unfolding from_digits
digit_more b d e zero n h f g = absurd (omega arith)
digit_more b d e (suc l) n h f g =
    ⊎_elim
    (λ q.
    let s = digits_same b e d l (λ i t. g i (omega arith) (omega arith)) in
    let u : e l ≡ suc (d l) = ap e (sym q) ∙ f ∙ ap (λ i. d i + 1) q ∙ add-one (d l) in
    let v : e l * b ^ l ≡ d l * b ^ l + b ^ l = ap (λ x. x * b ^ l) u ∙ suc-mul (d l) (b ^ l) in
    let w : b ^ n ≡ b ^ l = ap (λ i. b ^ i) q in
    omega arith)
    (λ q.
    let t : n < l = omega arith in
    let r = digit_more b d e l n t f (λ i a z. g i (omega arith) z) in
    let v : e l * b ^ l ≡ d l * b ^ l = ap (λ x. x * b ^ l) (g l (omega arith) (λ z. q (sym z))) in
    omega arith)
    (cases_eq n l)

-- the test of child i for one more child
taken_new : (cells : List ℕ) (k s n : ℕ) → occupied cells k (8 * s + n) ≡ true → taken cells k s (n + 1) n ≡ true
taken_new cells k s n o = and_from (ltb n (n + 1)) (occupied cells k (8 * s + n)) (lt-ltb n (n + 1) (omega arith)) o

taken_not : (cells : List ℕ) (k s n : ℕ) → taken cells k s n n ≡ false
taken_not cells k s n = and_left (ltb n n) (occupied cells k (8 * s + n)) (le-ltb n n (omega arith))

taken_old : (cells : List ℕ) (k s n i : ℕ) → i ≢ n → taken cells k s (n + 1) i ≡ taken cells k s n i
taken_old cells k s n i h =
    ap (λ t. t && occupied cells k (8 * s + i))
    (⊎_elim
    (λ a. lt-ltb i (n + 1) (omega arith) ∙ sym (lt-ltb i n a))
    (λ a. le-ltb i (n + 1) (omega arith) ∙ sym (le-ltb i n a))
    (cases_lt i n))

pub row_more : (cells : List ℕ) (ns : List Node) (k s n : ℕ) → n < 8 → occupied cells k (8 * s + n) ≡ true
    → row_node cells ns k s (n + 1) ≡ with_child (row_node cells ns k s n) n (link_to cells ns k (8 * s + n)) (row_count cells k s n)
unfolding row_node row_count with_child
row_more cells ns k s n h o =
    let new = taken_new cells k s n o in
    let not = taken_not cells k s n in
    let a = digit_more 2 (λ i. cond (taken cells k s n i) 1 0) (λ i. cond (taken cells k s (n + 1) i) 1 0) 8 n h
    (ap (λ t. cond {A = ℕ} t 1 0) new ∙ ap (λ t. cond {A = ℕ} t 1 0 + 1) (sym not))
    (λ i l z. ap (λ t. cond {A = ℕ} t 1 0) (taken_old cells k s n i z)) in
    let b = set_eight
    (λ i. cond (taken cells k s n i) (link_to cells ns k (8 * s + i)) none) (λ i. cond (taken cells k s (n + 1) i) (link_to cells ns k (8 * s + i)) none)
    n (link_to cells ns k (8 * s + n)) h
    (ap (λ t. cond t (link_to cells ns k (8 * s + n)) none) new)
    (λ i l z. ap (λ t. cond t (link_to cells ns k (8 * s + i)) none) (taken_old cells k s n i z)) in
    let c = set_eight
    (λ i. cond (taken cells k s n i) (count cells (first k (8 * s)) (first k (8 * s + i))) 0)
    (λ i. cond (taken cells k s (n + 1) i) (count cells (first k (8 * s)) (first k (8 * s + i))) 0)
    n (count cells (first k (8 * s)) (first k (8 * s + n))) h
    (ap (λ t. cond {A = ℕ} t (count cells (first k (8 * s)) (first k (8 * s + n))) 0) new)
    (λ i l z. ap (λ t. cond {A = ℕ} t (count cells (first k (8 * s)) (first k (8 * s + i))) 0) (taken_old cells k s n i z)) in
    λ t. record { level = suc k; mask = a t; links = b t; offsets = c t }

pub row_free : (cells : List ℕ) (ns : List Node) (k s n : ℕ) → occupied cells k (8 * s + n) ≡ false → row_node cells ns k s (n + 1) ≡ row_node cells ns k s n
row_free cells ns k s n o =
    row_skip cells ns k s n (n + 1) (omega arith)
    (λ i l a b. let e : n ≡ i = omega arith in subst (λ j. occupied cells k (8 * s + j) ≡ false) e o)

-- ---- the running count

pub count_more : (cells : List ℕ) (k s n : ℕ) → row_count cells k s (n + 1) ≡ row_count cells k s n + count cells (first k (8 * s + n)) (first k (8 * s + n + 1))
unfolding row_count
count_more cells k s n =
    ap (λ e. count cells (first k (8 * s)) (first k e)) (sym (add_assoc (8 * s) n 1))
    ∙ count_split cells (first k (8 * s)) (first k (8 * s + n)) (first k (8 * s + n + 1)) (first_le k (8 * s) (8 * s + n) (omega arith)) (first_le k (8 * s + n) (8 * s + n + 1) (omega arith))

pub count_start : (cells : List ℕ) (k s : ℕ) → row_count cells k s 0 ≡ 0
unfolding row_count
count_start cells k s = count_none cells (first k (8 * s)) (first k (8 * s + 0)) (first_le k (8 * s + 0) (8 * s) (omega arith))

-- a row with all children counts the cells of its sub-cube
pub count_all : (cells : List ℕ) (k s : ℕ) → row_count cells k s 8 ≡ count cells (first (suc k) s) (first (suc k) (s + 1))
unfolding row_count
count_all cells k s = ap₂ (count cells) (sym (times_eight k s)) (sym (first_next k s))

pub count_depends : (cells others : List ℕ) (m k s n : ℕ) → SameBelow cells others m → first k (8 * s + n) ≤ m → row_count cells k s n ≡ row_count others k s n
unfolding row_count
count_depends cells others m k s n same h = same (first k (8 * s)) (first k (8 * s + n)) h

-- children from n on that lie where no cell is add nothing
pub count_skip : (cells : List ℕ) (k s n j : ℕ) → n ≤ j → count cells (first k (8 * s + n)) (first k (8 * s + j)) ≡ 0 → row_count cells k s j ≡ row_count cells k s n
unfolding row_count
count_skip cells k s n j h z =
    let t = count_split cells (first k (8 * s)) (first k (8 * s + n)) (first k (8 * s + j)) (first_le k (8 * s) (8 * s + n) (omega arith)) (first_le k (8 * s + n) (8 * s + j) (omega arith)) in
    omega arith

-- ---- the row that holds m

-- the child of level r that m lies in, of its sub-cube of level r + 1
pub child_place_lem : (r m : ℕ) → 8 * sub_cube (suc r) m + sub_cube r m % 8 ≡ sub_cube r m
child_place_lem r m =
    let e = up r m in
    let d = div-add-mod' (sub_cube r m) 8 in
    omega arith

pub child_small : (r m : ℕ) → sub_cube r m % 8 < 8
child_small r m = mod-lt (sub_cube r m) {m = 8} (omega arith)

module _ (cells : List ℕ) (m : ℕ) (last : AllUpTo cells m) where
  later_free : (r i : ℕ) → sub_cube r m % 8 < i → occupied cells r (8 * sub_cube (suc r) m + i) ≡ false
  later_free r i h = beyond_free cells m last r (8 * sub_cube (suc r) m + i) (omega (arith, child_place_lem r m))

  -- past the child of m a row does not change
  pub row_past : (ns : List Node) (r n : ℕ) → sub_cube r m % 8 < n → row_node cells ns r (sub_cube (suc r) m) n ≡ row_node cells ns r (sub_cube (suc r) m) (sub_cube r m % 8 + 1)
  row_past ns r n h =
      row_skip cells ns r (sub_cube (suc r) m) (sub_cube r m % 8 + 1) n (omega arith) (λ i l a b. later_free r i (omega arith))

  -- with the child of m it is the whole record
  pub row_whole : (ns : List Node) (r : ℕ) → row_node cells ns r (sub_cube (suc r) m) (sub_cube r m % 8 + 1) ≡ record_of cells ns r (sub_cube (suc r) m)
  row_whole ns r = sym (row_past ns r 8 (child_small r m)) ∙ row_all cells ns r (sub_cube (suc r) m)

  pub count_past : (r n : ℕ) → sub_cube r m % 8 < n → row_count cells r (sub_cube (suc r) m) n ≡ row_count cells r (sub_cube (suc r) m) (sub_cube r m % 8 + 1)
  count_past r n h =
      let p = child_place_lem r m in
      let a = span_to r m in
      let b = first_le r (sub_cube r m + 1) (8 * sub_cube (suc r) m + (sub_cube r m % 8 + 1)) (omega arith) in
      let w = count_wider cells (m + 1) (first r (8 * sub_cube (suc r) m + (sub_cube r m % 8 + 1))) (first r (8 * sub_cube (suc r) m + n)) (first r (8 * sub_cube (suc r) m + n))
      (omega arith) (first_le r (8 * sub_cube (suc r) m + (sub_cube r m % 8 + 1)) (8 * sub_cube (suc r) m + n) (omega arith)) (omega arith) in
      let z = last (first r (8 * sub_cube (suc r) m + n)) in
      count_skip cells r (sub_cube (suc r) m) (sub_cube r m % 8 + 1) n (omega arith) (omega arith)

  pub count_whole : (r : ℕ) → row_count cells r (sub_cube (suc r) m) (sub_cube r m % 8 + 1) ≡ count cells (first (suc r) (sub_cube (suc r) m)) (first (suc r) (sub_cube (suc r) m + 1))
  count_whole r = sym (count_past r 8 (child_small r m)) ∙ count_all cells r (sub_cube (suc r) m)

  -- a row of a sub-cube beyond that of m is empty
  pub row_beyond : (ns : List Node) (k s n : ℕ) → sub_cube (suc k) m < s → row_node cells ns k s n ≡ empty_row k
  row_beyond ns k s n h =
      row_skip cells ns k s 0 n (omega arith)
      (λ i l a b. beyond_free cells m last k (8 * s + i) (omega (arith, child_place_lem k m, child_small k m)))
      ∙ row_none cells ns k s

  pub count_beyond : (k s n : ℕ) → sub_cube (suc k) m < s → row_count cells k s n ≡ 0
  count_beyond k s n h =
      let a = span_to k m in
      let b = first_le k (sub_cube k m + 1) (8 * s + 0) (omega (arith, child_place_lem k m, child_small k m)) in
      let w = count_wider cells (m + 1) (first k (8 * s + 0)) (first k (8 * s + n)) (first k (8 * s + n))
      (omega arith) (first_le k (8 * s + 0) (8 * s + n) (omega arith)) (omega arith) in
      let z = last (first k (8 * s + n)) in
      count_skip cells k s 0 n (omega arith) (omega arith) ∙ count_start cells k s
