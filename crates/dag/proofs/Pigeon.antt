-- The pigeonhole, for a relation between numbers.
use Rattle.std.proofs.Common.{◌≡◌, ℕ, zero, suc, ◌<◌, ◌≤◌, ◌⊎◌, refl, subst, inl, inr, ⊎_elim, arith}
use Rattle.std.proofs.lemmas.Bool.{cases_lt}

-- every number below a has a partner below b
abbrev pub Total : (ℕ → ℕ → Type 0) → ℕ → ℕ → Type 0
Total R a b = (n : ℕ) → n < a → (m : ℕ) × (m < b) × R n m

-- two numbers below a never share a partner
abbrev pub Apart : (ℕ → ℕ → Type 0) → ℕ → Type 0
Apart R a = (n p m : ℕ) → n < a → p < a → R n m → R p m → n ≡ p

-- partner m is taken away, and who had the highest partner b gets m in its place
abbrev Moved : (ℕ → ℕ → Type 0) → ℕ → ℕ → ℕ → ℕ → Type 0
Moved R b m n x = R n x ⊎ (R n b × (x ≡ m))

module _ (R : ℕ → ℕ → Type 0) (a b m : ℕ) (small : m < suc b) (mine : R a m) (apart : Apart R (suc a)) where
  moved_total : Total R (suc a) (suc b) → Total (Moved R b m) a b
  moved_total total n h =
      let t = total n (omega arith) in
      let low = t.1 in
      ⊎_elim
      (λ l. (t.0, l, inl t.2))
      (λ l. let e : t.0 ≡ b = omega arith in
      let r : R n b = subst (R n) e t.2 in
      ⊎_elim
      (λ q. (m, q, inr (r, refl)))
      (λ q. let f : m ≡ b = omega arith in
      let same = apart n a b (omega arith) (omega arith) r (subst (R a) f mine) in
      absurd (omega arith))
      (cases_lt m b))
      (cases_lt t.0 b)

  -- who keeps m would share it
  never : (n x : ℕ) → n < a → R n x → x ≡ m → ⊥
  never n x h r e =
      let same = apart n a m (omega arith) (omega arith) (subst (R n) e r) mine in
      omega arith

  moved_apart : Apart (Moved R b m) a
  moved_apart n p x h l u v =
      ⊎_elim
      (λ r. ⊎_elim
      (λ q. apart n p x (omega arith) (omega arith) r q)
      (λ q. absurd (never n x h r q.1))
      v)
      (λ r. ⊎_elim
      (λ q. absurd (never p x l q r.1))
      (λ q. apart n p b (omega arith) (omega arith) r.0 q.0)
      v)
      u

-- numbers with partners of their own are no more than the partners
pub pigeon : (a b : ℕ) (R : ℕ → ℕ → Type 0) → Total R a b → Apart R a → a ≤ b
pigeon zero b R total apart = omega arith
pigeon (suc a) zero R total apart = absurd (omega (arith, (total 0 (omega arith)).1))
pigeon (suc a) (suc b) R total apart =
    let t = total a (omega arith) in
    let h = pigeon a b (Moved R b t.0) (moved_total R a b t.0 t.1 t.2 apart total) (moved_apart R a b t.0 t.1 t.2 apart) in
    omega arith
