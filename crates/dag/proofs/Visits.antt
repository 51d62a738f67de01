-- Going through the codes of a sub-cube is going through those of its eight children, and then taking its own turn.
use Rattle.std.proofs.Common.{◌≡◌, ℕ, zero, suc, ◌+◌, ◌-◌, ◌*◌, ◌%◌, ◌^◌, ◌<◌, ◌≤◌, true, false, List, [], sym, refl, ap, ◌∙◌, subst, ap₂, add-zero, add_assoc, add-suc, mod-eq_of_lt, mul_assoc, suc-mul, mul_comm, add-mul, zero-add, zero-mul, arith}
use native.Mathlib.Nat.{pow-succ', mul-add-mod_self_right, mod_self}
use lib.Arith.{digits_div}
use Rattle.std.proofs.lemmas.Bool.{eq-eqb, ne_eqb}
use Rattle.cells.specs.SubCubes.{sub_cube}
use Rattle.cells.proofs.Digits.{base_pos}
use Rattle.nodes.specs.declared.node.Node.{Node}
use Rattle.dag.specs.Sealed.{turn, ends, closing, below, sealed}

-- the list after the turns of levels 1 to k at n codes from a on
unfoldable pub runs : ℕ → List ℕ → ℕ → ℕ → List Node → List Node
runs k cells a zero ns = ns
runs k cells a (suc n) ns = closing cells (a + n) k (runs k cells a n ns)

-- n steps in a row, with the numbers from s on
unfoldable pub each : (ℕ → List Node → List Node) → ℕ → ℕ → List Node → List Node
each f s zero ns = ns
each f s (suc n) ns = f (s + n) (each f s n ns)

-- the list after the turns of all sub-cubes inside sub-cube s of level k, and of itself: children first
unfoldable pub visit : List ℕ → ℕ → ℕ → List Node → List Node
visit cells zero s ns = ns
visit cells (suc k) s ns = turn cells k s (each (visit cells k) (8 * s) 8 ns)

pub below_runs : (L : ℕ) (cells : List ℕ) (m : ℕ) → below L cells m ≡ runs L cells 0 m []
unfolding below runs
below_runs L cells zero = refl
below_runs L cells (suc m) = ap₂ (λ c ns. closing cells c L ns) (sym (zero-add m)) (below_runs L cells m)

runs_add : (k : ℕ) (cells : List ℕ) (a m n : ℕ) (ns : List Node) → runs k cells a (m + n) ns ≡ runs k cells (a + m) n (runs k cells a m ns)
unfolding runs
runs_add k cells a m zero ns = ap (λ j. runs k cells a j ns) (add-zero m)
runs_add k cells a m (suc n) ns =
    ap (λ j. runs k cells a j ns) (add-suc m n)
    ∙ ap₂ (λ c ms. closing cells c k ms) (sym (add_assoc a m n)) (runs_add k cells a m n ns)

-- ---- which codes end a sub-cube

ends_not : (k s n : ℕ) → n + 1 < 8 ^ k → ends k (s * 8 ^ k + n) ≡ false
ends_not k s n h =
    let e : (s * 8 ^ k + n + 1) % 8 ^ k ≡ n + 1 = rw (add_assoc (s * 8 ^ k) n 1, mul-add-mod_self_right s (8 ^ k) (n + 1)) (mod-eq_of_lt h) in
    ne_eqb _ 0 (λ z. absurd (omega arith))

ends_last : (k s n : ℕ) → n + 1 ≡ 8 ^ k → ends k (s * 8 ^ k + n) ≡ true
ends_last k s n h =
    eq-eqb _ 0 (rw (add_assoc (s * 8 ^ k) n 1, mul-add-mod_self_right s (8 ^ k) (n + 1), h) (mod_self (8 ^ k)))

pub in_sub_cube : (k s n : ℕ) → n < 8 ^ k → sub_cube k (s * 8 ^ k + n) ≡ s
in_sub_cube k s n h = digits_div s h

-- sub-cube s of level k + 1 begins where sub-cube 8s of level k does
pub times_eight : (k s : ℕ) → s * 8 ^ suc k ≡ 8 * s * 8 ^ k
times_eight k s = rw (pow-succ' 8 k, ← mul_assoc s 8 (8 ^ k), mul_comm s 8) refl

-- ---- the shared step

module _ (cells : List ℕ) (k s : ℕ) where
  -- before its last code a sub-cube of level k + 1 has no turn of its own
  inner : (n : ℕ) (ns : List Node) → n + 1 ≤ 8 ^ suc k → runs (suc k) cells (s * 8 ^ suc k) n ns ≡ runs k cells (s * 8 ^ suc k) n ns
  unfolding runs closing
  inner zero ns h = refl
  inner (suc n) ns h =
      rw (ends_not (suc k) s n (omega arith)) (ap (closing cells (s * 8 ^ suc k + n) k) (inner n ns (omega arith)))

  last_turn : (n : ℕ) (ns : List Node) → n + 1 ≡ 8 ^ suc k
      → runs (suc k) cells (s * 8 ^ suc k) (suc n) ns ≡ turn cells k s (runs k cells (s * 8 ^ suc k) (suc n) ns)
  unfolding runs closing
  last_turn n ns h =
      rw (ends_last (suc k) s n h, in_sub_cube (suc k) s n (omega arith), inner n ns (omega arith)) refl

  own_turn : (ns : List Node) → runs (suc k) cells (s * 8 ^ suc k) (8 ^ suc k) ns ≡ turn cells k s (runs k cells (s * 8 ^ suc k) (8 ^ suc k) ns)
  own_turn ns =
      let h = base_pos 8 (suc k) (omega arith) in
      let e : suc (8 ^ suc k - 1) ≡ 8 ^ suc k = omega arith in
      subst (λ m. runs (suc k) cells (s * 8 ^ suc k) m ns ≡ turn cells k s (runs k cells (s * 8 ^ suc k) m ns)) e
      (last_turn (8 ^ suc k - 1) ns (omega arith))

-- n sub-cubes of level k, one after the other
row_visits : (cells : List ℕ) (k s n : ℕ) (ns : List Node)
    → ((t : ℕ) (ms : List Node) → runs k cells (t * 8 ^ k) (8 ^ k) ms ≡ visit cells k t ms)
    → runs k cells (s * 8 ^ k) (n * 8 ^ k) ns ≡ each (visit cells k) s n ns
unfolding each
row_visits cells k s zero ns h = unfold runs in ap (λ j. runs k cells (s * 8 ^ k) j ns) (zero-mul (8 ^ k))
row_visits cells k s (suc n) ns h =
    ap (λ j. runs k cells (s * 8 ^ k) j ns) (suc-mul n (8 ^ k))
    ∙ runs_add k cells (s * 8 ^ k) (n * 8 ^ k) (8 ^ k) ns
    ∙ ap (λ a. runs k cells a (8 ^ k) (runs k cells (s * 8 ^ k) (n * 8 ^ k) ns)) (sym (add-mul s n (8 ^ k)))
    ∙ ap (runs k cells ((s + n) * 8 ^ k) (8 ^ k)) (row_visits cells k s n ns h)
    ∙ h (s + n) (each (visit cells k) s n ns)

-- the codes of a sub-cube, in the order of the sealed list, are a visit
pub runs_visit : (cells : List ℕ) (k s : ℕ) (ns : List Node) → runs k cells (s * 8 ^ k) (8 ^ k) ns ≡ visit cells k s ns
runs_visit cells zero s ns = unfold runs closing visit in refl
runs_visit cells (suc k) s ns =
    own_turn cells k s ns
    ∙ ap (turn cells k s)
    (ap₂ (λ a n. runs k cells a n ns) (times_eight k s) (pow-succ' 8 k) ∙ row_visits cells k (8 * s) 8 ns (runs_visit cells k))
    ∙ visit_eight cells k s ns
  where
    visit_eight : (cells : List ℕ) (k s : ℕ) (ns : List Node) → turn cells k s (each (visit cells k) (8 * s) 8 ns) ≡ visit cells (suc k) s ns
    visit_eight cells k s ns = unfold visit in refl

-- the sealed list is the visit of the whole hall
pub sealed_visit : (L : ℕ) (cells : List ℕ) → sealed L cells ≡ visit cells L 0 []
sealed_visit L cells =
    below_runs L cells (8 ^ L) ∙ ap (λ a. runs L cells a (8 ^ L) []) (sym (zero-mul (8 ^ L))) ∙ runs_visit cells L 0 []
