-- Sub-cubes whose records are in the list.
use Rattle.std.proofs.Common.{◌≡◌, ℕ, zero, suc, ◌+◌, ◌*◌, ◌<◌, Bool, true, false, cond, List, [], ◌∷◌, ◌++◌, length, sym, refl, ap, ◌∙◌, subst, ⊎_elim, arith}
use Rattle.std.proofs.lemmas.Bool.{cond_both, ltb-true, ltb-false, cond-true, cases_lt}
use Rattle.std.proofs.lemmas.List.{length-append, length_push}
use Rattle.nodes.specs.Records.{none}
use Rattle.nodes.specs.declared.node.Node.{Node}
use Rattle.dag.specs.Records.{lowest, occupied, node_of, link_to, record_of, eight}
use Rattle.dag.specs.Sealed.{Begins, there, written, turn}
use Rattle.dag.proofs.Lowest.{lowest_stays, lowest_new}
use Rattle.dag.proofs.Growth.{begins_self, begins_trans, turn_begins}
use Rattle.dag.proofs.Visits.{each, visit}

-- a choice that is only made where the test is true
cond_same : (b : Bool) (x y z : ℕ) → (b ≡ true → x ≡ y) → cond b x z ≡ cond b y z
cond_same true x y z h = h refl
cond_same false x y z h = refl

eight_same : (f g : ℕ → ℕ) → ((i : ℕ) → i < 8 → f i ≡ g i) → eight f ≡ eight g
eight_same f g h =
    λ j. h 0 (omega arith) j ∷ h 1 (omega arith) j ∷ h 2 (omega arith) j ∷ h 3 (omega arith) j ∷ h 4 (omega arith) j ∷ h 5 (omega arith) j ∷ h 6 (omega arith) j ∷ h 7 (omega arith) j ∷ []

-- a record takes of its links only those of occupied children
pub node_of_same : (cells : List ℕ) (k s : ℕ) (f g : ℕ → ℕ) → ((i : ℕ) → i < 8 → occupied cells k (8 * s + i) ≡ true → f (8 * s + i) ≡ g (8 * s + i))
    → node_of cells k s f ≡ node_of cells k s g
node_of_same cells k s f g h =
    let e = eight_same _ _ (λ i l. cond_same (occupied cells k (8 * s + i)) (f (8 * s + i)) (g (8 * s + i)) none (h i l)) in
    λ j. record { level = suc k; mask = (node_of cells k s f).mask; links = e j; offsets = (node_of cells k s f).offsets }

-- the record of an occupied sub-cube and those of all occupied sub-cubes in it are in the list
abbrev pub Known : List ℕ → List Node → ℕ → ℕ → Type 0
Known cells ns zero s = Unit {0}
Known cells ns (suc k) s =
    (link_to cells ns (suc k) s < length ns) × ((i : ℕ) → i < 8 → occupied cells k (8 * s + i) ≡ true → Known cells ns k (8 * s + i))

module _ (cells : List ℕ) (ns ms : List Node) (grows : Begins ns ms) where
  -- in a longer list it is known too, under the same number
  pub known_stays : (k s : ℕ) → Known cells ns k s → Known cells ms k s × (link_to cells ms k s ≡ link_to cells ns k s)
  unfolding link_to
  known_stays zero s h = (tt, refl)
  known_stays (suc k) s h =
      let e : node_of cells k s (link_to cells ms k) ≡ node_of cells k s (link_to cells ns k) =
      node_of_same cells k s (link_to cells ms k) (link_to cells ns k) (λ i l o. (known_stays k (8 * s + i) (h.1 i l o)).1) in
      let f : lowest ms (node_of cells k s (link_to cells ms k)) ≡ lowest ns (node_of cells k s (link_to cells ns k)) =
      ap (lowest ms) e ∙ ap (λ xs. lowest xs (node_of cells k s (link_to cells ns k))) grows.1 ∙ lowest_stays ns grows.0 (node_of cells k s (link_to cells ns k)) h.0 in
      let g = length-append ns grows.0 in
      let l : length ms ≡ length ns + length grows.0 = ap length grows.1 ∙ g in
      ((rw f (omega (arith, h.0)), λ i b o. (known_stays k (8 * s + i) (h.1 i b o)).0), f)

-- ---- after its turn a sub-cube is known

pub lowest_written : (ns : List Node) (a : Node) → lowest (written ns a) a < length (written ns a)
lowest_written ns a =
    cond_both (there ns a) ns (ns ++ a ∷ []) (λ ms. lowest ms a < length ms)
    (λ e. ltb-true (lowest ns a) (length ns) e)
    (λ e. rw (lowest_new ns a (ltb-false (lowest ns a) (length ns) e), length_push ns a) (omega arith))

-- the children that hold a cell are known
abbrev pub ChildrenKnown : List ℕ → List Node → ℕ → ℕ → Type 0
ChildrenKnown cells ns k s = (i : ℕ) → i < 8 → occupied cells k (8 * s + i) ≡ true → Known cells ns k (8 * s + i)

-- the record of a sub-cube whose children are known stays the same as the list grows
pub record_stays : (cells : List ℕ) (ns ms : List Node) → Begins ns ms → (k s : ℕ) → ChildrenKnown cells ns k s → record_of cells ms k s ≡ record_of cells ns k s
record_stays cells ns ms grows k s h =
    node_of_same cells k s (link_to cells ms k) (link_to cells ns k) (λ i l o. (known_stays cells ns ms grows k (8 * s + i) (h i l o)).1)

pub turn_known : (cells : List ℕ) (k s : ℕ) (ns : List Node) → ChildrenKnown cells ns k s → occupied cells (suc k) s ≡ true → Known cells (turn cells k s ns) (suc k) s
turn_known cells k s ns h o =
    let grows = turn_begins cells k s ns in (
      link_written (turn cells k s ns) (turn_is o) (record_stays cells ns (turn cells k s ns) grows k s h),
      (λ i l q. (known_stays cells ns (turn cells k s ns) grows k (8 * s + i) (h i l q)).0),
    )
  where
    turn_is : occupied cells (suc k) s ≡ true → turn cells k s ns ≡ written ns (record_of cells ns k s)
    turn_is e = unfold turn in cond-true (occupied cells (suc k) s) _ _ e

    link_written : (ms : List Node) → ms ≡ written ns (record_of cells ns k s) → record_of cells ms k s ≡ record_of cells ns k s → link_to cells ms (suc k) s < length ms
    link_written ms e f =
        unfold link_to in
        subst (λ a. lowest ms a < length ms) (sym f) (subst (λ xs. lowest xs (record_of cells ns k s) < length xs) (sym e) (lowest_written ns (record_of cells ns k s)))

pub each_begins : (f : ℕ → List Node → List Node) → ((s : ℕ) (ns : List Node) → Begins ns (f s ns)) → (s n : ℕ) (ns : List Node) → Begins ns (each f s n ns)
unfolding each
each_begins f h s zero ns = begins_self ns
each_begins f h s (suc n) ns = begins_trans _ _ _ (each_begins f h s n ns) (h (s + n) (each f s n ns))

pub visit_begins : (cells : List ℕ) (k s : ℕ) (ns : List Node) → Begins ns (visit cells k s ns)
unfolding visit
visit_begins cells zero s ns = begins_self ns
visit_begins cells (suc k) s ns =
    begins_trans _ _ _ (each_begins (visit cells k) (visit_begins cells k) (8 * s) 8 ns) (turn_begins cells k s (each (visit cells k) (8 * s) 8 ns))

-- after the visits of n sub-cubes those that hold a cell are known
pub each_known : (cells : List ℕ) (k s n : ℕ) (ns : List Node)
    → ((t : ℕ) (ms : List Node) → occupied cells k t ≡ true → Known cells (visit cells k t ms) k t)
    → (i : ℕ) → i < n → occupied cells k (s + i) ≡ true → Known cells (each (visit cells k) s n ns) k (s + i)
unfolding each
each_known cells k s zero ns h i l o = absurd (omega arith)
each_known cells k s (suc n) ns h i l o =
    ⊎_elim
    (λ b. (known_stays cells (each (visit cells k) s n ns) (visit cells k (s + n) (each (visit cells k) s n ns))
    (visit_begins cells k (s + n) (each (visit cells k) s n ns)) k (s + i) (each_known cells k s n ns h i b o)).0)
    (λ b. let e : n ≡ i = omega arith in
    subst (λ j. Known cells (visit cells k (s + j) (each (visit cells k) s n ns)) k (s + i)) (sym e)
    (h (s + i) (each (visit cells k) s n ns) o))
    (cases_lt i n)

-- a visit makes its sub-cube known, if that holds a cell
pub visit_known : (cells : List ℕ) (k s : ℕ) (ns : List Node) → occupied cells k s ≡ true → Known cells (visit cells k s ns) k s
unfolding visit
visit_known cells zero s ns o = tt
visit_known cells (suc k) s ns o =
    turn_known cells k s (each (visit cells k) (8 * s) 8 ns) (each_known cells k (8 * s) 8 ns (visit_known cells k)) o
