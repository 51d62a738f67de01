-- Every record of the sealed list is the record of an occupied sub-cube of the hall, and no record is there twice.
use Rattle.std.proofs.Common.{◌≡◌, ℕ, zero, suc, ◌+◌, ◌*◌, ◌<◌, true, ◌⊎◌, List, [], ◌∷◌, ◌++◌, length, sym, refl, ◌∙◌, subst, inl, inr, ⊎_elim, arith}
use Rattle.std.proofs.lemmas.Bool.{cond_both, cases_lt}
use Rattle.std.proofs.lemmas.List.{length_push, get_or_push, get_or_append_left}
use Rattle.nodes.specs.Records.{blank}
use Rattle.nodes.specs.declared.node.Node.{Node}
use Rattle.dag.specs.Rules.{node_at}
use Rattle.dag.specs.Records.{occupied, record_of}
use Rattle.dag.specs.Sealed.{Begins, there, written, turn, sealed}
use Rattle.dag.proofs.Visits.{each, visit, sealed_visit}
use Rattle.dag.proofs.Known.{Known, ChildrenKnown, known_stays, record_stays, visit_begins, visit_known}

-- ---- sub-cubes inside a sub-cube

-- sub-cube t of level j is sub-cube s of level k, or lies inside one of its children
abbrev pub Inside : ℕ → ℕ → ℕ → ℕ → Type 0
Inside zero s j t = (j ≡ 0) × (t ≡ s)
Inside (suc k) s j t = ((j ≡ suc k) × (t ≡ s)) ⊎ ((i : ℕ) × (i < 8) × Inside k (8 * s + i) j t)

pub inside_self : (k s : ℕ) → Inside k s k s
inside_self zero s = (refl, refl)
inside_self (suc k) s = inl (refl, refl)

-- a child of a sub-cube inside is inside
pub inside_child : (k s j t i : ℕ) → i < 8 → Inside k s (suc j) t → Inside k s j (8 * t + i)
inside_child zero s j t i h (e, f) = absurd (omega arith)
inside_child (suc k) s j t i h (inl (e, f)) =
    let g : k ≡ j = omega arith in
    inr (i, h, subst (λ q. Inside k (8 * s + i) q (8 * t + i)) g (subst (λ q. Inside k (8 * s + i) k (8 * q + i)) (sym f) (inside_self k (8 * s + i))))
inside_child (suc k) s j t i h (inr (p, l, q)) = inr (p, l, inside_child k (8 * s + p) j t i h q)

-- ---- the rule for what holds of a growing list

module _ (cells : List ℕ) (L S : ℕ) (P : List Node → Type 0)
    (step : (k s : ℕ) (ns : List Node) → Inside L S (suc k) s → ChildrenKnown cells ns k s → P ns → P (turn cells k s ns)) where
  -- after n visits it still holds, and the sub-cubes visited are known
  each_holds : (k s n : ℕ) (ns : List Node)
      → ((i : ℕ) (ms : List Node) → i < n → P ms → P (visit cells k (s + i) ms))
      → P ns
      → P (each (visit cells k) s n ns) × ((i : ℕ) → i < n → occupied cells k (s + i) ≡ true → Known cells (each (visit cells k) s n ns) k (s + i))
  unfolding each
  each_holds k s zero ns h p = (p, λ i l o. absurd (omega arith))
  each_holds k s (suc n) ns h p =
      let before = each_holds k s n ns (λ i ms l. h i ms (omega arith)) p in
      let ms = each (visit cells k) s n ns in (
        h n ms (omega arith) before.0,
        λ i l o. ⊎_elim
            (λ b. (known_stays cells ms (visit cells k (s + n) ms) (visit_begins cells k (s + n) ms) k (s + i) (before.1 i b o)).0)
            (λ b. let e : i ≡ n = omega arith in
            subst (λ j. Known cells (visit cells k (s + j) ms) k (s + i)) e (visit_known cells k (s + i) ms o))
            (cases_lt i n),
      )

  -- what each turn keeps, once the occupied children are known, a visit keeps
  pub visit_holds : (k s : ℕ) (ns : List Node) → Inside L S k s → P ns → P (visit cells k s ns)
  unfolding visit
  visit_holds zero s ns h p = p
  visit_holds (suc k) s ns h p =
      let r = each_holds k (8 * s) 8 ns (λ i ms l. visit_holds k (8 * s + i) ms (inside_child L S k s i l h)) p in
      step k s (each (visit cells k) (8 * s) 8 ns) h r.1 r.0

-- ---- no record twice

-- ---- where records come from

-- a record is that of sub-cube t of level j + 1, which is occupied and lies in sub-cube S of level L
pub record Origin (cells : List ℕ) (L S : ℕ) (ns : List Node) (a : Node) : Type 0 where
  pub j : ℕ
  pub t : ℕ
  pub inside : Inside L S (suc j) t
  pub full : occupied cells (suc j) t ≡ true
  pub known : ChildrenKnown cells ns j t
  pub is : a ≡ record_of cells ns j t

abbrev pub Sourced : List ℕ → ℕ → ℕ → List Node → Type 0
Sourced cells L S ns = (n : ℕ) → n < length ns → Origin cells L S ns (node_at ns n)

module _ (cells : List ℕ) (L S : ℕ) where
  origin_stays : (ns ms : List Node) (a : Node) → Begins ns ms → Origin cells L S ns a → Origin cells L S ms a
  origin_stays ns ms a grows o = record {
    j = o.j;
    t = o.t;
    inside = o.inside;
    full = o.full;
    known = λ i l q. (known_stays cells ns ms grows o.j (8 * o.t + i) (o.known i l q)).0;
    is = o.is ∙ sym (record_stays cells ns ms grows o.j o.t o.known);
  }

  sourced_push : (ns : List Node) (a : Node) → Sourced cells L S ns → Origin cells L S ns a → Sourced cells L S (ns ++ a ∷ [])
  sourced_push ns a p o n h =
      let l = length_push ns a in
      ⊎_elim
      (λ b. subst (Origin cells L S (ns ++ a ∷ [])) (sym (get_or_append_left ns (a ∷ []) blank n b))
      (origin_stays ns (ns ++ a ∷ []) (node_at ns n) (a ∷ [], refl) (p n b)))
      (λ b. let e : length ns ≡ n = omega arith in
      subst (Origin cells L S (ns ++ a ∷ [])) (sym (get_or_push ns a blank n e))
      (origin_stays ns (ns ++ a ∷ []) a (a ∷ [], refl) o))
      (cases_lt n (length ns))

  sourced_turn : (k s : ℕ) (ns : List Node) → Inside L S (suc k) s → ChildrenKnown cells ns k s → Sourced cells L S ns → Sourced cells L S (turn cells k s ns)
  unfolding turn
  sourced_turn k s ns h c p =
      cond_both (occupied cells (suc k) s) (written ns (record_of cells ns k s)) ns (Sourced cells L S)
      (λ o. cond_both (there ns (record_of cells ns k s)) ns (ns ++ record_of cells ns k s ∷ []) (Sourced cells L S)
      (λ e. p)
      (λ e. sourced_push ns (record_of cells ns k s) p
      (record { j = k; t = s; inside = h; full = o; known = c; is = refl })))
      (λ o. p)

pub sealed_sourced : (L : ℕ) (cells : List ℕ) → Sourced cells L 0 (sealed L cells)
sealed_sourced L cells =
    subst (Sourced cells L 0) (sym (sealed_visit L cells))
    (visit_holds cells L 0 (Sourced cells L 0) (sourced_turn cells L 0) L 0 [] (inside_self L 0) (λ n h. absurd (omega arith)))
