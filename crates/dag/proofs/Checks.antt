-- The checks of one record, child by child.
use Rattle.std.proofs.Common.{◌≡◌, ℕ, zero, suc, ◌/◌, ◌^◌, ◌<◌, true, false, List, length, subst, ⊎_elim, mod-lt, arith}
use Rattle.std.proofs.lemmas.Bool.{cases_Bool, cases_lt, eq-eqb, ne_eqb, eqb-true, eqb-false}
use Rattle.cells.specs.Hall.{bit}
use Rattle.nodes.specs.declared.node.Node.{Node}
use Rattle.dag.specs.Rules.{node_at, link_of, BottomLinks, UpperLinks}
use Rattle.dag.specs.Laws.{Nameable}
use Rattle.dag.specs.Sizes.{has_child, RightOffsets}
use Rattle.dag.specs.Checks.{LinkRight, ChildRight, PassTo, Countable}

clear_child : (a : Node) (i : ℕ) → bit i a.mask ≡ 0 → has_child a i ≡ false
clear_child a i e = ne_eqb (bit i a.mask) 1 (λ f. omega arith)

child_clear : (a : Node) (i : ℕ) → has_child a i ≡ false → bit i a.mask ≡ 0
child_clear a i t =
    let l = mod-lt (a.mask / 2 ^ i) {m = 2} (omega arith) in
    ⊎_elim (λ b. omega arith) (λ b. absurd (eqb-false (bit i a.mask) 1 t (omega arith))) (cases_lt (bit i a.mask) 1)

module _ (ns : List Node) (few : Nameable ns) (n : ℕ) (inside : n < length ns) where
  -- right children keep the rules
  pub bottom_from : (k : ℕ) → (node_at ns n).level ≡ suc k → ((i : ℕ) → i < 8 → ChildRight ns k n i) → BottomLinks (node_at ns n)
  bottom_from zero v h one i l = ⊎_elim (h i l).there (h i l).absent (cases_Bool (has_child (node_at ns n) i))
  bottom_from (suc k) v h one i l = absurd (omega arith)

  pub upper_from : (k : ℕ) → (node_at ns n).level ≡ suc k → ((i : ℕ) → i < 8 → ChildRight ns k n i) → UpperLinks ns n
  upper_from zero v h high i l = absurd (omega arith)
  upper_from (suc k) v h high i l = (
    (λ e. (h i l).absent (clear_child (node_at ns n) i e)),
    (λ e. ⊎_elim
        (λ t. let r = ((h i l).there t).0 in absurd (omega arith))
        (λ t. child_clear (node_at ns n) i t)
        (cases_Bool (has_child (node_at ns n) i))),
    (λ e. let r = (h i l).there (eq-eqb (bit i (node_at ns n).mask) 1 e) in (r.0, omega (arith, r.1))),
  )

  pub offsets_from : (k : ℕ) → (node_at ns n).level ≡ suc k → ((i : ℕ) → i < 8 → ChildRight ns k n i) → RightOffsets ns n
  offsets_from k v h j w i l =
      let e : k ≡ j = omega arith in
      (subst (λ q. ChildRight ns q n i) e (h i l)).offset

  -- and the rules make the children right
  pub child_from : (k : ℕ) → (node_at ns n).level ≡ suc k → BottomLinks (node_at ns n) → UpperLinks ns n → RightOffsets ns n → (i : ℕ) → i < 8 → ChildRight ns k n i
  child_from zero v low high right i l = record { there = λ t. low v i l; absent = λ t. low v i l; offset = right zero v i l }
  child_from (suc k) v low high right i l =
      let r = high (omega arith) i l in
      record {
        there = λ t. let q = r.2 (eqb-true (bit i (node_at ns n).mask) 1 t) in (q.0, omega (arith, q.1));
        absent = λ t. r.0 (child_clear (node_at ns n) i t);
        offset = right (suc k) v i l;
      }

-- the child that a right link leads to can be counted
pub child_countable : (L : ℕ) (ns : List Node) (k n m : ℕ) → n < length ns → PassTo L ns n → LinkRight ns k n m → Countable ns k m
child_countable L ns zero n m inside pass h = tt
child_countable L ns (suc k) n m inside pass h = (h.1, omega (arith, h.0), (L, λ j l. pass j (omega (arith, h.0))))

-- one step down to a child
pub step_countable : (ns : List Node) (k n i : ℕ) → Nameable ns → i < 8 → Countable ns (suc k) n → has_child (node_at ns n) i ≡ true → Countable ns k (link_of (node_at ns n) i)
step_countable ns k n i few l h t =
    let L = h.2.0 in
    let pass = h.2.1 in
    let this = pass n (omega arith) in
    child_countable L ns k n (link_of (node_at ns n) i) h.1 (λ j b. pass j (omega arith))
    ((child_from ns few n h.1 k h.0 this.r2 this.r3 this.offsets i l).there t)
