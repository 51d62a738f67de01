-- Meeting the records of a list from the root down.
use Rattle.std.proofs.Common.{◌≡◌, ℕ, zero, suc, ◌+◌, ◌<◌, ◌≤◌, true, cond, eqb, ltb, List, length, sym, refl, ap, ◌∙◌, subst, ⊎_elim, add-zero, add-suc, arith}
use Rattle.std.proofs.lemmas.Bool.{cases_lt, cases_eq, cases_Bool, lt-ltb, le-ltb, eq-eqb, ne_eqb, eqb-true, cond-true, cond-false}
use Rattle.cells.specs.Hall.{bit}
use Rattle.nodes.specs.declared.node.Node.{Node}
use Rattle.dag.specs.Rules.{node_at, link_of}
use Rattle.dag.specs.Sizes.{has_child}
use Rattle.dag.specs.Meets.{through, leave, meet, meet_children}
use Rattle.dag.specs.Checks.{LinksDown, Here}

-- ---- steps in a row

module _ (f : ℕ → ℕ → ℕ) where
  pub through_between : (b n : ℕ) → ((i m : ℕ) → i < n → m ≤ b → (m ≤ f i m) × (f i m ≤ b)) → (m : ℕ) → m ≤ b → (m ≤ through f n m) × (through f n m ≤ b)
  unfolding through
  through_between b zero h m l = (omega arith, l)
  through_between b (suc n) h m l =
      let before = through_between b n (λ i m q. h i m (omega arith)) m l in
      let here = h n (through f n m) (omega arith) before.1 in
      (omega (arith, before.0, here.0), here.1)

  pub through_same : (n m : ℕ) → ((i : ℕ) → i < n → f i m ≡ m) → through f n m ≡ m
  unfolding through
  through_same zero m h = refl
  through_same (suc n) m h = ap (f n) (through_same n m (λ i l. h i (omega arith))) ∙ h n (omega arith)

-- a number names a lower record; level 0 has none
abbrev pub Under : ℕ → ℕ → ℕ → Type 0
Under zero q m = Unit {0}
Under (suc k) q m = q < m

-- ---- one record

module _ (ns : List Node) (k n m : ℕ) where
  -- a record that was met before changes nothing
  pub meet_met : n < m → meet ns (suc k) n m ≡ m
  unfolding meet
  meet_met b = cond-true (ltb n m) m _ (lt-ltb n m b)

  -- any other is left after its children
  pub meet_left : m ≤ n → meet ns (suc k) n m ≡ leave ns n (meet_children ns k n 8 m)
  unfolding meet
  meet_left b = cond-false (ltb n m) m _ (le-ltb n m b)

  pub leave_next : n ≡ m → leave ns n m ≡ suc m
  leave_next e = cond-true (eqb n m) _ _ (eq-eqb n m e)

  pub leave_fails : (n ≡ m → ⊥) → leave ns n m ≡ suc (length ns)
  leave_fails e = cond-false (eqb n m) _ _ (ne_eqb n m e)

-- from a number met to one within the list, the record left is the next
pub left_within : (ns : List Node) (k n m : ℕ) → m ≤ n → meet ns (suc k) n m ≤ length ns
    → (n ≡ meet_children ns k n 8 m) × (meet ns (suc k) n m ≡ suc n)
left_within ns k n m b h =
    let M = meet_children ns k n 8 m in
    let e = meet_left ns k n m b in
    ⊎_elim
    (λ q. (q, e ∙ leave_next ns k n M q ∙ ap suc (sym q)))
    (λ q. let f = leave_fails ns k n M q in absurd (omega arith))
    (cases_eq n M)

-- ---- all of a list

module _ (ns : List Node) (down : LinksDown ns) where
  -- a child leads to an earlier record of the level below
  pub child_here : (k n i : ℕ) → i < 8 → Here ns (suc k) n → has_child (node_at ns n) i ≡ true
      → Here ns k (link_of (node_at ns n) i) × Under k (link_of (node_at ns n) i) n
  child_here zero n i l h t = (tt, tt)
  child_here (suc k) n i l h t =
      let r = (down n h.0 (omega (arith, h.1)) i l).2 (eqb-true (bit i (node_at ns n).mask) 1 t) in
      ((omega (arith, r.0, h.0), omega (arith, r.1, h.1)), r.0)

  -- the step at child i
  abbrev pub step : ℕ → ℕ → ℕ → ℕ → ℕ
  step k n i m = cond (has_child (node_at ns n) i) (meet ns k (link_of (node_at ns n) i) m) m

  -- what holds of the number before a step and after it
  step_by : (P : ℕ → ℕ → Type 0) (k n i m : ℕ) → i < 8 → Here ns (suc k) n → P m m → ((q : ℕ) → Here ns k q → P m (meet ns k q m)) → P m (step k n i m)
  step_by P k n i m l h stay go =
      ⊎_elim
      (λ t. subst (P m) (sym (cond-true (has_child (node_at ns n) i) _ m t)) (go (link_of (node_at ns n) i) (child_here k n i l h t).0))
      (λ t. subst (P m) (sym (cond-false (has_child (node_at ns n) i) _ m t)) stay)
      (cases_Bool (has_child (node_at ns n) i))

  -- the number of records met never falls, and is at most one past the list
  abbrev Between : ℕ → ℕ → Type 0
  Between m r = (m ≤ r) × (r ≤ suc (length ns))

  children_between : (k n i m : ℕ) → i ≤ 8 → Here ns (suc k) n → ((q j : ℕ) → Here ns k q → j ≤ suc (length ns) → Between j (meet ns k q j)) → m ≤ suc (length ns)
      → Between m (meet_children ns k n i m)
  children_between k n i m l h rest low =
      through_between (step k n) (suc (length ns)) i
      (λ j r q b. step_by (λ x y. Between x y) k n j r (omega arith) h (omega arith, b) (λ u v. rest u r v b)) m low

  pub meet_between : (k n m : ℕ) → Here ns k n → m ≤ suc (length ns) → Between m (meet ns k n m)
  meet_between zero n m h l = unfold meet in (omega arith, l)
  meet_between (suc k) n m h l =
      let M = meet_children ns k n 8 m in
      let kids = children_between k n 8 m (omega arith) h (meet_between k) l in
      let low = kids.0 in
      let inside = h.0 in
      ⊎_elim
      (λ b. subst (Between m) (sym (meet_met ns k n m b)) (omega arith, l))
      (λ b. subst (Between m) (sym (meet_left ns k n m b))
      (⊎_elim
      (λ e. subst (Between m) (sym (leave_next ns k n M e)) (omega arith, omega arith))
      (λ e. subst (Between m) (sym (leave_fails ns k n M e)) (l, omega arith))
      (cases_eq n M)))
      (cases_lt n m)

  pub kids_between : (k n i m : ℕ) → i ≤ 8 → Here ns (suc k) n → m ≤ suc (length ns) → Between m (meet_children ns k n i m)
  kids_between k n i m l h low = children_between k n i m l h (meet_between k) low

  -- the number after more children is no lower
  pub kids_grow : (k n i m : ℕ) → i < 8 → Here ns (suc k) n → m ≤ suc (length ns) → meet_children ns k n i m ≤ meet_children ns k n (suc i) m
  unfolding through
  kids_grow k n i m l h low =
      let before = kids_between k n i m (omega arith) h low in
      step_by (λ x y. x ≤ y) k n i (meet_children ns k n i m) l h (omega arith) (λ q v. (meet_between k q (meet_children ns k n i m) v before.1).0)

  pub kids_later : (k n i d m : ℕ) → i + d ≤ 8 → Here ns (suc k) n → m ≤ suc (length ns) → meet_children ns k n i m ≤ meet_children ns k n (i + d) m
  kids_later k n i zero m l h low = subst (λ j. meet_children ns k n i m ≤ meet_children ns k n j m) (sym (add-zero i)) (omega arith)
  kids_later k n i (suc d) m l h low =
      let before = kids_later k n i d m (omega arith) h low in
      let here = kids_grow k n (i + d) m (omega arith) h low in
      subst (λ j. meet_children ns k n i m ≤ meet_children ns k n j m) (sym (add-suc i d)) (omega arith)

  -- a record is met once it was gone into
  pub meet_past : (k n m : ℕ) → meet ns (suc k) n m ≤ length ns → n < meet ns (suc k) n m
  meet_past k n m h =
      ⊎_elim
      (λ b. rw (meet_met ns k n m b) b)
      (λ b. let r = (left_within ns k n m b h).1 in omega arith)
      (cases_lt n m)

  -- where the record was met, its children were
  pub kids_met : (k n i m : ℕ) → i ≤ 8 → Here ns (suc k) n → n < m → meet_children ns k n i m ≡ m
  kids_met k n i m l h b =
      through_same (step k n) i m
      (λ j q. ⊎_elim
      (λ t. cond-true (has_child (node_at ns n) j) _ m t ∙ met k (link_of (node_at ns n) j) (child_here k n j (omega arith) h t).1)
      (λ t. cond-false (has_child (node_at ns n) j) _ m t)
      (cases_Bool (has_child (node_at ns n) j)))
    where
      met : (k q : ℕ) → Under k q n → meet ns k q m ≡ m
      met zero q u = unfold meet in refl
      met (suc k) q u = meet_met ns k q m (omega arith)

  -- after the children their links lie below the number met
  pub links_met : (k n m : ℕ) → Here ns (suc (suc k)) n → m ≤ suc (length ns) → (i : ℕ) → i ≤ 8 → meet_children ns (suc k) n i m ≤ length ns
      → (j : ℕ) → j < i → has_child (node_at ns n) j ≡ true → link_of (node_at ns n) j < meet_children ns (suc k) n i m
  unfolding through
  links_met k n m h low zero l within j q t = absurd (omega arith)
  links_met k n m h low (suc i) l within j q t =
      let grow = kids_grow (suc k) n i m l h low in
      ⊎_elim
      (λ b. let r = links_met k n m h low i (omega arith) (omega arith) j b t in omega arith)
      (λ b. let e : i ≡ j = omega arith in
      let u : has_child (node_at ns n) i ≡ true = subst (λ x. has_child (node_at ns n) x ≡ true) (sym e) t in
      let s : step (suc k) n i (meet_children ns (suc k) n i m) ≡ meet ns (suc k) (link_of (node_at ns n) i) (meet_children ns (suc k) n i m) = cond-true (has_child (node_at ns n) i) _ _ u in
      let p = meet_past k (link_of (node_at ns n) i) (meet_children ns (suc k) n i m) (omega arith) in
      subst (λ x. link_of (node_at ns n) x < step (suc k) n i (meet_children ns (suc k) n i m)) e (omega arith))
      (cases_lt j i)

  -- ---- the records met under a record of level k have levels up to k

  abbrev Low : ℕ → ℕ → ℕ → Type 0
  Low k m r = r ≤ length ns → (j : ℕ) → m ≤ j → j < r → (node_at ns j).level ≤ k

  children_low : (k n m : ℕ) → Here ns (suc k) n → m ≤ suc (length ns) → ((q j : ℕ) → Here ns k q → j ≤ suc (length ns) → Low k j (meet ns k q j)) → (i : ℕ) → i ≤ 8
      → Low k m (meet_children ns k n i m)
  unfolding through
  children_low k n m h low rest zero l within j a b = absurd (omega arith)
  children_low k n m h low rest (suc i) l within j a b =
      let before = kids_between k n i m (omega arith) h low in
      let grow = kids_grow k n i m l h low in
      ⊎_elim
      (λ c. children_low k n m h low rest i (omega arith) (omega arith) j a c)
      (λ c. step_by (Low k) k n i (meet_children ns k n i m) l h (λ w x y z. absurd (omega arith)) (λ q v. rest q (meet_children ns k n i m) v before.1) within j c b)
      (cases_lt j (meet_children ns k n i m))

  meet_low : (k n m : ℕ) → Here ns k n → m ≤ suc (length ns) → Low k m (meet ns k n m)
  meet_low zero n m h low = none_met
    where
      none_met : Low 0 m (meet ns 0 n m)
      none_met = unfold meet in λ w j a b. absurd (omega arith)
  meet_low (suc k) n m h low =
      ⊎_elim
      (λ b. subst (Low (suc k) m) (sym (meet_met ns k n m b)) (λ w j x y. absurd (omega arith)))
      (λ b w j x y.
      let r = left_within ns k n m b w in
      let e = r.0 in
      let f = r.1 in
      let inside = h.0 in
      let level = h.1 in
      ⊎_elim
      (λ c. let u = children_low k n m h low (meet_low k) 8 (omega arith) (omega arith) j x (omega arith) in omega arith)
      (λ c. let g : n ≡ j = omega arith in subst (λ q. (node_at ns q).level ≤ suc k) g (omega arith))
      (cases_lt j n))
      (cases_lt n m)

  pub kids_low : (k n m : ℕ) → Here ns (suc k) n → m ≤ suc (length ns) → Low k m (meet_children ns k n 8 m)
  kids_low k n m h low = children_low k n m h low (meet_low k) 8 (omega arith)
