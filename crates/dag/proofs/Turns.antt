-- Meeting the records step by step: what a record of level k is, one of level k - 1 + 1.
use Rattle.std.proofs.Common.{◌≡◌, ℕ, zero, suc, ◌+◌, ◌-◌, ◌<◌, ◌≤◌, true, false, List, length, sym, refl, ap, ◌∙◌, subst, add-one, arith}
use Rattle.std.proofs.lemmas.Bool.{cond-true, cond-false}
use Rattle.nodes.specs.declared.node.Node.{Node}
use Rattle.dag.specs.Rules.{node_at, link_of}
use Rattle.dag.specs.Sizes.{has_child}
use Rattle.dag.specs.Meets.{through, meet, meet_children}
use Rattle.dag.specs.Checks.{LinksDown, Here}
use Rattle.dag.proofs.Meeting.{meet_met, meet_left, leave_next, leave_fails, child_here, kids_later}

-- a cell has no record to meet
pub met_cell : (ns : List Node) (k n m : ℕ) → k ≡ 0 → meet ns k n m ≡ m
met_cell ns k n m e = ap (λ j. meet ns j n m) e ∙ none_met
  where
    none_met : meet ns 0 n m ≡ m
    none_met = unfold meet in refl

pub kids_none : (ns : List Node) (k n m : ℕ) → meet_children ns k n 0 m ≡ m
unfolding through
kids_none ns k n m = refl

-- one child more
pub kids_there : (ns : List Node) (k n i m : ℕ) → has_child (node_at ns n) i ≡ true → meet_children ns k n (i + 1) m ≡ meet ns k (link_of (node_at ns n) i) (meet_children ns k n i m)
unfolding through
kids_there ns k n i m t = ap (λ j. meet_children ns k n j m) (add-one i) ∙ cond-true (has_child (node_at ns n) i) _ _ t

pub kids_absent : (ns : List Node) (k n i m : ℕ) → has_child (node_at ns n) i ≡ false → meet_children ns k n (i + 1) m ≡ meet_children ns k n i m
unfolding through
kids_absent ns k n i m t = ap (λ j. meet_children ns k n j m) (add-one i) ∙ cond-false (has_child (node_at ns n) i) _ _ t

-- what holds of a level above 0 holds of k with k - 1 below it
from_above : (P : ℕ → ℕ → Type 0) → ((k : ℕ) → P (suc k) k) → (k : ℕ) → 0 < k → P k (k - 1)
from_above P h zero l = absurd (omega arith)
from_above P h (suc k) l = let e : k ≡ suc k - 1 = omega arith in subst (P (suc k)) e (h k)

module _ (ns : List Node) (down : LinksDown ns) (n m : ℕ) where
  pub met_before : (k : ℕ) → 0 < k → n < m → meet ns k n m ≡ m
  met_before k l b = from_above (λ k q. meet ns k n m ≡ m) (λ q. meet_met ns q n m b) k l

  pub kid_here : (k i : ℕ) → 0 < k → i < 8 → Here ns k n → has_child (node_at ns n) i ≡ true → Here ns (k - 1) (link_of (node_at ns n) i)
  kid_here k i l b =
      from_above (λ k q. Here ns k n → has_child (node_at ns n) i ≡ true → Here ns q (link_of (node_at ns n) i)) (λ q h t. (child_here ns down q n i b h t).0) k l

  pub here_inside : (k : ℕ) → 0 < k → Here ns k n → n < length ns
  here_inside k l = from_above (λ k q. Here ns k n → n < length ns) (λ q h. h.0) k l

  -- the record is the next one
  pub left_next : (k : ℕ) → 0 < k → m ≤ n → n ≡ meet_children ns (k - 1) n 8 m → meet ns k n m ≡ n + 1
  left_next k l b =
      from_above (λ k q. n ≡ meet_children ns q n 8 m → meet ns k n m ≡ n + 1)
      (λ q e. meet_left ns q n m b ∙ leave_next ns q n (meet_children ns q n 8 m) e ∙ ap suc (sym e) ∙ sym (add-one n)) k l

  -- or it is not
  pub left_late : (k : ℕ) → 0 < k → m ≤ n → (n ≡ meet_children ns (k - 1) n 8 m → ⊥) → length ns < meet ns k n m
  left_late k l b =
      from_above (λ k q. (n ≡ meet_children ns q n 8 m → ⊥) → length ns < meet ns k n m)
      (λ q e. let f = meet_left ns q n m b ∙ leave_fails ns q n (meet_children ns q n 8 m) e in omega arith) k l

  -- a failure below a child is one of the record
  pub left_failed : (k i : ℕ) → 0 < k → i < 8 → m ≤ n → m ≤ length ns → Here ns k n → has_child (node_at ns n) i ≡ true
      → length ns < meet ns (k - 1) (link_of (node_at ns n) i) (meet_children ns (k - 1) n i m) → length ns < meet ns k n m
  left_failed k i l b low few =
      from_above (λ k q. Here ns k n → has_child (node_at ns n) i ≡ true → length ns < meet ns q (link_of (node_at ns n) i) (meet_children ns q n i m) → length ns < meet ns k n m)
      (λ q h t fail.
      let d : i + 1 + (7 - i) ≡ 8 = omega arith in
      let s = kids_there ns q n i m t in
      let later = subst (λ j. meet_children ns q n (i + 1) m ≤ meet_children ns q n j m) d (kids_later ns down q n (i + 1) (7 - i) m (omega arith) h (omega arith)) in
      let inside = h.0 in
      let f = meet_left ns q n m low ∙ leave_fails ns q n (meet_children ns q n 8 m) (λ e. absurd (omega arith)) in
      omega arith) k l
