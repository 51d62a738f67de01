-- The cells that a list marks.
use Rattle.std.proofs.Common.{◌≡◌, ℕ, zero, suc, ◌^◌, ◌<◌, ◌≤◌, Bool, true, false, cond, ◌&&◌, ◌||◌, eqb, List, [], ◌∷◌, ◌++◌, sym, refl, ap, ◌∙◌, subst, ap₂, ⊎_elim, arith}
use Rattle.std.specs.List.{AllByRecursion}
use Rattle.std.proofs.ByRecursion.{All-push, All-weaker}
use Rattle.std.proofs.lemmas.List.{append-nil}
use Rattle.std.proofs.lemmas.Bool.{eq-eqb, ne_eqb, cond_both, cases_lt, cases_eq}
use Rattle.nodes.specs.declared.node.Node.{Node}
use Rattle.dag.specs.Sets.{CellSet, has}
use Rattle.dag.specs.Walk.{marks, MarksExactly}
use Rattle.dag.specs.Laws.{Nameable}
use Rattle.dag.specs.Delivered.{marked_below, marked, MarkedSet, SealsMarked}
use Rattle.dag.proofs.Next.{set_push}
use Rattle.dag.proofs.Laws.{marks_cells}
use Rattle.dag.proofs.Unique.{same_members, has_past}

-- ---- a set of cells

set_none : (L : ℕ) → CellSet L []
set_none L = record { rising = tt; inside = tt }

module _ (L : ℕ) (ns : List Node) where
  marked_to : (c : ℕ) → c ≤ 8 ^ L → CellSet L (marked_below L ns c) × AllByRecursion (λ d. d < c) (marked_below L ns c)
  unfolding marked_below
  marked_to zero h = (set_none L, tt)
  marked_to (suc c) h =
      let before = marked_to c (omega arith) in
      let all : AllByRecursion (λ d. d < suc c) (marked_below L ns c) = All-weaker (λ d. d < c) (λ d. d < suc c) (λ d l. omega arith) (marked_below L ns c) before.1 in
      let P : List ℕ → Type 0 = λ more. CellSet L (marked_below L ns c ++ more) × AllByRecursion (λ d. d < suc c) (marked_below L ns c ++ more) in
      cond_both (marks L ns c) (c ∷ []) [] P
      (λ e. (set_push L (marked_below L ns c) c before.0 before.1 (omega arith), All-push (λ d. d < suc c) (marked_below L ns c) c all (omega arith)))
      (λ e. subst (λ cells. CellSet L cells × AllByRecursion (λ d. d < suc c) cells) (sym (append-nil (marked_below L ns c))) (before.0, all))

pub marked_set : MarkedSet
marked_set L ns = (marked_to L ns (8 ^ L) (omega arith)).0

-- ---- which cells

or_assoc : (x y z : Bool) → (x || (y || z)) ≡ ((x || y) || z)
or_assoc true y z = refl
or_assoc false y z = refl

or_none : (x : Bool) → (x || false) ≡ x
or_none true = refl
or_none false = refl

has_append : (xs ys : List ℕ) (d : ℕ) → has (xs ++ ys) d ≡ (has xs d || has ys d)
unfolding has
has_append [] ys d = refl
has_append (x ∷ xs) ys d = ap (λ t. eqb x d || t) (has_append xs ys d) ∙ or_assoc (eqb x d) (has xs d) (has ys d)

has_one : (c d : ℕ) (t : Bool) → has (cond t (c ∷ []) []) d ≡ (t && eqb c d)
unfolding has
has_one c d true = or_none (eqb c d)
has_one c d false = refl

and_none : (x : Bool) → (x && false) ≡ false
and_none true = refl
and_none false = refl

and_all : (x : Bool) → (x && true) ≡ x
and_all true = refl
and_all false = refl

module _ (L : ℕ) (ns : List Node) where
  has_to : (c d : ℕ) → d < c → c ≤ 8 ^ L → has (marked_below L ns c) d ≡ marks L ns d
  unfolding marked_below
  has_to zero d h l = absurd (omega arith)
  has_to (suc c) d h l =
      has_append (marked_below L ns c) (cond (marks L ns c) (c ∷ []) []) d
      ∙ ap (λ t. has (marked_below L ns c) d || t) (has_one c d (marks L ns c))
      ∙ ⊎_elim
      (λ e. ap₂ (λ x y. x || (marks L ns c && y)) (has_past (marked_below L ns c) c d (marked_to L ns c (omega arith)).1 (omega arith)) (eq-eqb c d e)
      ∙ and_all (marks L ns c) ∙ ap (marks L ns) e)
      (λ e. ap₂ (λ x y. x || (marks L ns c && y)) (has_to c d (omega arith) (omega arith)) (ne_eqb c d e)
      ∙ ap (λ t. marks L ns d || t) (and_none (marks L ns c)) ∙ or_none (marks L ns d))
      (cases_eq c d)

  pub marks_marked : MarksExactly L ns (marked L ns)
  marks_marked code h = sym (has_to (8 ^ L) code h (omega arith))

-- a set of cells that seals to a list is the set of the cells that the list marks
pub seals_marked : SealsMarked
seals_marked L ns cells one few set is =
    let other = marked_set L ns in
    same_members cells (marked L ns) set.rising other.rising
    (λ c. ⊎_elim
    (λ l. sym (marks_cells L cells one (subst Nameable is few) c l) ∙ ap (λ ms. marks L ms c) (sym is) ∙ marks_marked L ns c l)
    (λ l. has_past cells (8 ^ L) c set.inside l ∙ sym (has_past (marked L ns) (8 ^ L) c other.inside l))
    (cases_lt c (8 ^ L)))
