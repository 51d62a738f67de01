-- The parts of a sub-cube's record.
use Rattle.std.proofs.Common.{◌≡◌, ℕ, zero, suc, ◌+◌, ◌*◌, ◌%◌, ◌^◌, ◌<◌, ◌≤◌, true, cond, List, refl, ap, ◌∙◌, subst, ⊎_elim, add-zero, add-mul, mul-add, arith}
use native.Mathlib.Nat.{zero-div}
use Rattle.std.proofs.lemmas.Bool.{cond_both, ltb-true, lt-ltb, cases_lt}
use Rattle.cells.specs.Hall.{bit}
use Rattle.cells.proofs.Digits.{digit_at}
use Rattle.nodes.specs.Records.{none, of_child}
use Rattle.dag.specs.Sets.{count}
use Rattle.dag.specs.Rules.{link_of, offset_of}
use Rattle.dag.specs.Records.{first, occupied, eight, node_of}
use Rattle.dag.proofs.Counts.{count_split, count_none}
use Rattle.dag.proofs.Visits.{times_eight}

pub child_eight : (f : ℕ → ℕ) (i : ℕ) → i < 8 → of_child i (eight f) ≡ f i
child_eight f zero h = refl
child_eight f (suc zero) h = refl
child_eight f (suc (suc zero)) h = refl
child_eight f (suc (suc (suc zero))) h = refl
child_eight f (suc (suc (suc (suc zero)))) h = refl
child_eight f (suc (suc (suc (suc (suc zero))))) h = refl
child_eight f (suc (suc (suc (suc (suc (suc zero)))))) h = refl
child_eight f (suc (suc (suc (suc (suc (suc (suc zero))))))) h = refl
child_eight f (suc (suc (suc (suc (suc (suc (suc (suc i)))))))) h = absurd (omega arith)

module _ (cells : List ℕ) (k s : ℕ) (link : ℕ → ℕ) (i : ℕ) (h : i < 8) where
  digit_small : (j : ℕ) → cond {A = ℕ} (occupied cells k (8 * s + j)) 1 0 < 2
  digit_small j = cond_both (occupied cells k (8 * s + j)) 1 0 (λ d. d < 2) (λ e. omega arith) (λ e. omega arith)

  -- bit i is set exactly if child i holds a cell
  pub mask_bit : bit i (node_of cells k s link).mask ≡ cond {A = ℕ} (occupied cells k (8 * s + i)) 1 0
  mask_bit = digit_at 2 (λ j. cond {A = ℕ} (occupied cells k (8 * s + j)) 1 0) digit_small 8 i h

  pub link_is : link_of (node_of cells k s link) i ≡ cond (occupied cells k (8 * s + i)) (link (8 * s + i)) none
  link_is = child_eight (λ j. cond (occupied cells k (8 * s + j)) (link (8 * s + j)) none) i h

  pub offset_is : offset_of (node_of cells k s link) i ≡ cond {A = ℕ} (occupied cells k (8 * s + i)) (count cells (first k (8 * s)) (first k (8 * s + i))) 0
  offset_is = child_eight (λ j. cond {A = ℕ} (occupied cells k (8 * s + j)) (count cells (first k (8 * s)) (first k (8 * s + j))) 0) i h

-- sub-cubes begin one after the other
pub first_more : (k s n : ℕ) → first k s ≤ first k (s + n)
first_more k s n = rw (add-mul s n (8 ^ k)) (omega arith)

-- where n sub-cubes in a row hold a cell, one of them does
pub some_occupied : (cells : List ℕ) (k s n : ℕ) → 0 < count cells (first k s) (first k (s + n)) → (i : ℕ) × (i < n) × (occupied cells k (s + i) ≡ true)
some_occupied cells k s zero h = absurd (omega (arith, count_none cells (first k s) (first k (s + 0)) (rw (add-zero s) (omega arith))))
some_occupied cells k s (suc n) h =
    let e : s + suc n ≡ s + n + 1 = omega arith in
    let t = count_split cells (first k s) (first k (s + n)) (first k (s + n + 1)) (first_more k s n) (first_more k (s + n) 1) in
    let g : 0 < count cells (first k s) (first k (s + n + 1)) = subst (λ m. 0 < count cells (first k s) (first k m)) e h in
    ⊎_elim
    (λ l. (n, omega arith, lt-ltb 0 (count cells (first k (s + n)) (first k (s + n + 1))) l))
    (λ l. let r = some_occupied cells k s n (omega arith) in (r.0, omega (arith, r.1), r.2))
    (cases_lt 0 (count cells (first k (s + n)) (first k (s + n + 1))))

-- an occupied sub-cube has an occupied child
pub child_occupied : (cells : List ℕ) (k s : ℕ) → occupied cells (suc k) s ≡ true → (i : ℕ) × (i < 8) × (occupied cells k (8 * s + i) ≡ true)
child_occupied cells k s o =
    let e : s * 8 ^ suc k ≡ 8 * s * 8 ^ k = times_eight k s in
    let f : (s + 1) * 8 ^ suc k ≡ (8 * s + 8) * 8 ^ k = times_eight k (s + 1) ∙ ap (λ m. m * 8 ^ k) (mul-add 8 s 1) in
    some_occupied cells k (8 * s) 8
    (subst (λ b. 0 < count cells (first k (8 * s)) b) f (subst (λ a. 0 < count cells a (first (suc k) (s + 1))) e (ltb-true 0 (count cells (first (suc k) s) (first (suc k) (s + 1))) o)))

-- and so its mask is not 0
pub mask_some : (cells : List ℕ) (k s : ℕ) (link : ℕ → ℕ) → occupied cells (suc k) s ≡ true → 0 < (node_of cells k s link).mask
mask_some cells k s link o =
    let c = child_occupied cells k s o in
    let e : bit c.0 (node_of cells k s link).mask ≡ 1 = mask_bit cells k s link c.0 c.1 ∙ ap (λ b. cond {A = ℕ} b 1 0) c.2 in
    ⊎_elim (λ l. l)
    (λ z. let m : (node_of cells k s link).mask ≡ 0 = omega arith in
    let b : bit c.0 (node_of cells k s link).mask ≡ 0 = ap (bit c.0) m ∙ ap (λ q. q % 2) (zero-div (2 ^ c.0)) in
    absurd (omega arith))
    (cases_lt 0 (node_of cells k s link).mask)
