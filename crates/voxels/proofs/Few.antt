-- How many cells a hall has, and the last of them.
use Rattle.std.proofs.Common.{◌≡◌, ℕ, zero, suc, ◌+◌, ◌-◌, ◌^◌, ◌<◌, ◌≤◌, true, false, cond, ◌&&◌, eqb, ltb, leb, List, [], ◌∷◌, subst, ⊎_elim, zero-lt-suc, add-one, arith}
use native.Mathlib.Nat.{pow-le-pow_right, one-le-pow}
use Rattle.std.specs.List.{AllByRecursion}
use Rattle.std.proofs.ByRecursion.{All-weaker}
use Rattle.std.proofs.lemmas.Bool.{cases_lt, or_cases, eqb-true, lt-ltb, le-ltb}
use Rattle.std.proofs.lemmas.Bool.Decides.{nat_tests}
use Rattle.dag.specs.Sets.{count, has, holds, Rising, CellSet}
use Rattle.dag.proofs.Counts.{count_split, count_none, count_wider}
use Rattle.dag.proofs.Ones.{rising_single}
use Rattle.dag.proofs.Next.{all_last}

-- below n there are at most n cells
up_to : (cells : List ℕ) → Rising cells → (n : ℕ) → count cells 0 n ≤ n
up_to cells h zero = let e = count_none cells 0 0 (omega arith) in omega arith
up_to cells h (suc n) =
    let e = count_split cells 0 n (suc n) (omega arith) (omega arith) in
    let f = up_to cells h n in
    let g : count cells n (suc n) ≤ 1 = subst (λ k. count cells n k ≤ 1) (add-one n) (rising_single cells h n) in
    omega arith

-- no more cells than codes
pub few_cells : (L : ℕ) (cells : List ℕ) → CellSet L cells → L ≤ 10 → (a b : ℕ) → count cells a b ≤ 2 ^ 30
few_cells L cells h l a b =
    let top : 8 ^ L ≤ 8 ^ 10 = pow-le-pow_right (zero-lt-suc 7) l in
    let one : 0 < 8 ^ L = one-le-pow L 8 (zero-lt-suc 7) in
    let past : count cells (8 ^ L) b ≡ 0 =
    subst (λ k. count cells k b ≡ 0) (omega arith)
    (all_last cells (8 ^ L - 1) (All-weaker (λ c. c < 8 ^ L) (λ c. c ≤ 8 ^ L - 1) (λ c q. omega arith) cells h.inside) b) in
    ⊎_elim
    (λ q.
    let w = count_wider cells 0 a b b (omega arith) (omega arith) (omega arith) in
    ⊎_elim
    (λ p. let u = up_to cells h.rising b in omega arith)
    (λ p. let s = count_split cells 0 (8 ^ L) b (omega arith) p in
    let u = up_to cells h.rising (8 ^ L) in omega arith)
    (cases_lt b (8 ^ L)))
    (λ q. let e = count_none cells a b q in omega arith)
    (cases_lt a b)

-- ---- the last cell

-- what holds of all cells holds of a cell
pub has_all : (P : ℕ → Type 0) (cells : List ℕ) (m : ℕ) → AllByRecursion P cells → has cells m ≡ true → P m
unfolding has
has_all P [] m h e = let z : ◌≡◌ {A = ℕ} 0 1 = cc in absurd (omega arith)
has_all P (c ∷ cells) m h e =
    ⊎_elim (λ q. subst P (eqb-true c m q) h.0) (λ q. has_all P cells m h.1 q) (or_cases (eqb c m) (has cells m) e)

one_in : (c a b : ℕ) → a ≤ c → c < b → cond {A = ℕ} (leb a c && ltb c b) 1 0 ≡ 1
one_in c a b h l = grind (arith, nat_tests)

-- a cell counts
has_counts : (cells : List ℕ) (m a b : ℕ) → has cells m ≡ true → a ≤ m → m < b → 1 ≤ count cells a b
unfolding has count
has_counts [] m a b e h l = let z : ◌≡◌ {A = ℕ} 0 1 = cc in absurd (omega arith)
has_counts (c ∷ cells) m a b e h l =
    ⊎_elim
    (λ q. let s = eqb-true c m q in let o = one_in c a b (omega arith) (omega arith) in omega arith)
    (λ q. let r = has_counts cells m a b q h l in omega arith)
    (or_cases (eqb c m) (has cells m) e)

module _ (L : ℕ) (cells : List ℕ) (m code : ℕ) (inside : AllByRecursion (λ c. c < 8 ^ L) cells) (placed : has cells m ≡ true) (last : (b : ℕ) → count cells (m + 1) b ≡ 0) where
  pub last_inside : m < 8 ^ L
  last_inside = has_all (λ c. c < 8 ^ L) cells m inside placed

  -- a cell has this code or a higher one
  pub holds_above : code ≤ m → holds cells code (8 ^ L) ≡ true
  holds_above h = lt-ltb 0 (count cells code (8 ^ L)) (has_counts cells m code (8 ^ L) placed h last_inside)

  -- none has
  pub holds_none : m < code → holds cells code (8 ^ L) ≡ false
  holds_none h = le-ltb 0 (count cells code (8 ^ L)) (⊎_elim
      (λ q. let w = count_wider cells (m + 1) code (8 ^ L) (8 ^ L) (omega arith) (omega arith) (omega arith) in
      let z = last (8 ^ L) in omega arith)
      (λ q. let e = count_none cells code (8 ^ L) q in omega arith)
      (cases_lt code (8 ^ L)))
