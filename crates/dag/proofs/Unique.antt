-- Equal sealed lists belong to equal sets of cells.
use Rattle.std.proofs.Common.{◌≡◌, ℕ, zero, suc, ◌+◌, ◌*◌, ◌^◌, ◌<◌, ◌≤◌, true, false, ◌||◌, eqb, List, [], ◌∷◌, sym, refl, ap, ◌∙◌, subst, ap₂, inl, inr, ⊎_elim, zero-add, zero-mul, arith}
use Rattle.std.specs.List.{AllByRecursion}
use Rattle.std.proofs.lemmas.Bool.{eq-eqb, ne_eqb, or_left, or_from, both_ways, cases_lt, cases_eq, cases_order, cases_Bool}
use Rattle.nodes.specs.declared.node.Node.{Node}
use Rattle.dag.specs.Sets.{CellSet, Rising, has}
use Rattle.dag.specs.Rules.{node_at}
use Rattle.dag.specs.Records.{lowest, first, occupied, link_to, record_of}
use Rattle.dag.specs.Sealed.{sealed}
use Rattle.dag.specs.Fewest.{OneListPerSet}
use Rattle.dag.proofs.Visits.{sealed_visit}
use Rattle.dag.proofs.Known.{Known, visit_known}
use Rattle.dag.proofs.Sound.{link_node}
use Rattle.dag.proofs.Contents.{rising_tail, SameCells, free_cell, cells_told}
use Rattle.dag.proofs.Origins.{Inside, Origin, Sourced, sealed_sourced}

-- ---- rising lists with the same members are equal

has_more : (a : ℕ) (cells : List ℕ) (c : ℕ) → has (a ∷ cells) c ≡ (eqb a c || has cells c)
has_more a cells c = unfold has in refl

has_first : (a : ℕ) (cells : List ℕ) → has (a ∷ cells) a ≡ true
has_first a cells = has_more a cells a ∙ or_left (eqb a a) (has cells a) (eq-eqb a a refl)

-- no code up to the first one is a later member
not_later : (a : ℕ) (cells : List ℕ) (c : ℕ) → Rising (a ∷ cells) → c ≤ a → has cells c ≡ false
not_later a [] c r h = unfold has in refl
not_later a (b ∷ cells) c (l, r) h =
    has_more b cells c ∙ or_from (eqb b c) (has cells c) (ne_eqb b c (λ e. omega arith)) (not_later b cells c r (omega arith))

pub not_before : (a : ℕ) (cells : List ℕ) (c : ℕ) → Rising (a ∷ cells) → c < a → has (a ∷ cells) c ≡ false
not_before a cells c r h =
    has_more a cells c ∙ or_from (eqb a c) (has cells c) (ne_eqb a c (λ e. omega arith)) (not_later a cells c r (omega arith))

has_other : (a : ℕ) (cells : List ℕ) (c : ℕ) → (a ≡ c → ⊥) → has (a ∷ cells) c ≡ has cells c
has_other a cells c h = has_more a cells c ∙ ap (λ t. t || has cells c) (ne_eqb a c h)

module _ (a b : ℕ) (A B : List ℕ) (risingA : Rising (a ∷ A)) (risingB : Rising (b ∷ B)) (same : (c : ℕ) → has (a ∷ A) c ≡ has (b ∷ B) c) where
  same_first : a ≡ b
  same_first =
      ⊎_elim (λ e. e)
      (⊎_elim
      (λ l. absurd (both_ways (has (b ∷ B) a) (not_before b B a risingB l) (sym (same a) ∙ has_first a A)))
      (λ l. absurd (both_ways (has (a ∷ A) b) (not_before a A b risingA l) (same b ∙ has_first b B))))
      (cases_order a b)

  same_later : (c : ℕ) → has A c ≡ has B c
  same_later c =
      let e = same_first in
      ⊎_elim
      (λ q. not_later a A c risingA (omega arith) ∙ sym (not_later b B c risingB (omega arith)))
      (λ q. sym (has_other a A c q) ∙ same c ∙ has_other b B c (λ r. q (e ∙ r)))
      (cases_eq a c)

pub same_members : (A B : List ℕ) → Rising A → Rising B → ((c : ℕ) → has A c ≡ has B c) → A ≡ B
same_members [] [] r s h = refl
same_members [] (b ∷ B) r s h = absurd (both_ways (has [] b) (unfold has in refl) (h b ∙ has_first b B))
same_members (a ∷ A) [] r s h = absurd (both_ways (has [] a) (unfold has in refl) (sym (h a) ∙ has_first a A))
same_members (a ∷ A) (b ∷ B) r s h =
    ap₂ (λ x xs. x ∷ xs) (same_first a b A B r s h)
    (same_members A B (rising_tail a A r) (rising_tail b B s) (same_later a b A B r s h))

-- a code past the bound is no member
pub has_past : (cells : List ℕ) (b c : ℕ) → AllByRecursion (λ d. d < b) cells → b ≤ c → has cells c ≡ false
has_past [] b c h l = unfold has in refl
has_past (d ∷ cells) b c (p, h) l =
    has_more d cells c ∙ or_from (eqb d c) (has cells c) (ne_eqb d c (λ e. omega arith)) (has_past cells b c h l)

-- ---- the root's record is the only one of its level

inside_level : (k s j t : ℕ) → Inside k s j t → j ≤ k
inside_level zero s j t (e, f) = omega arith
inside_level (suc k) s j t (inl (e, f)) = omega arith
inside_level (suc k) s j t (inr (i, l, q)) = omega (arith, inside_level k (8 * s + i) j t q)

inside_top : (k s t : ℕ) → Inside k s k t → t ≡ s
inside_top zero s t (e, f) = f
inside_top (suc k) s t (inl (e, f)) = f
inside_top (suc k) s t (inr (i, l, q)) = absurd (omega (arith, inside_level k (8 * s + i) (suc k) t q))

top_origin : (cells : List ℕ) (k : ℕ) (ns : List Node) (j t : ℕ) → j ≡ k → Inside (suc k) 0 (suc j) t → occupied cells (suc j) t ≡ true
    → (occupied cells (suc k) 0 ≡ true) × (record_of cells ns j t ≡ record_of cells ns k 0)
top_origin cells k ns j t e h o =
    let f : t ≡ 0 = inside_top (suc k) 0 t (subst (λ q. Inside (suc k) 0 (suc q) t) e h) in (
      subst (λ q. occupied cells (suc q) 0 ≡ true) e (subst (λ q. occupied cells (suc j) q ≡ true) f o),
      ap₂ (record_of cells ns) e f,
    )

-- ---- equal sealed lists tell the same cells

sealed_known : (L : ℕ) (cells : List ℕ) → occupied cells L 0 ≡ true → Known cells (sealed L cells) L 0
sealed_known L cells o = subst (λ ns. Known cells ns L 0) (sym (sealed_visit L cells)) (visit_known cells L 0 [] o)

module _ (k : ℕ) (A B : List ℕ) (equal : sealed (suc k) A ≡ sealed (suc k) B) where
  root_told : occupied A (suc k) 0 ≡ true → (occupied B (suc k) 0 ≡ true) × SameCells A B (suc k) 0 0
  root_told o =
      let ns = sealed (suc k) A in
      let a = sealed_known (suc k) A o in
      let n = link_to A ns (suc k) 0 in
      let e : node_at ns n ≡ record_of A ns k 0 = link_node A ns k 0 a in
      let c : Origin B (suc k) 0 ns (node_at ns n) = subst (Sourced B (suc k) 0) (sym equal) (sealed_sourced (suc k) B) n a.0 in
      let f : suc k ≡ suc c.j = ap (λ x. x.level) (sym e ∙ c.is) in
      let top = top_origin B k ns c.j c.t (omega arith) c.inside c.full in
      let b = subst (λ ms. Known B ms (suc k) 0) (sym equal) (sealed_known (suc k) B top.0) in
      let g : record_of A ns k 0 ≡ record_of B ns k 0 = sym e ∙ c.is ∙ top.1 in
      (top.0, cells_told A B ns (suc k) 0 0 a b o top.0 (link ns g))
    where
      link : (ns : List Node) → record_of A ns k 0 ≡ record_of B ns k 0 → link_to A ns (suc k) 0 ≡ link_to B ns (suc k) 0
      link ns g = unfold link_to in ap (lowest ns) g

pub hall_told : (k : ℕ) (A B : List ℕ) → sealed (suc k) A ≡ sealed (suc k) B → SameCells A B (suc k) 0 0
hall_told k A B equal =
    ⊎_elim
    (λ a. (root_told k A B equal a).1)
    (λ a. ⊎_elim
    (λ b o l. sym ((root_told k B A (sym equal) b).1 o l))
    (λ b o l. free_cell A (suc k) 0 a o l ∙ sym (free_cell B (suc k) 0 b o l))
    (cases_Bool (occupied B (suc k) 0)))
    (cases_Bool (occupied A (suc k) 0))

same_set : (k : ℕ) (A B : List ℕ) → CellSet (suc k) A → CellSet (suc k) B → sealed (suc k) A ≡ sealed (suc k) B → A ≡ B
same_set k A B a b equal =
    same_members A B a.rising b.rising
    (λ c. ⊎_elim
    (λ l. sym (from A c) ∙ hall_told k A B equal c l ∙ from B c)
    (λ l. has_past A (8 ^ suc k) c a.inside l ∙ sym (has_past B (8 ^ suc k) c b.inside l))
    (cases_lt c (8 ^ suc k)))
  where
    from : (cells : List ℕ) (c : ℕ) → has cells (first (suc k) 0 + c) ≡ has cells c
    from cells c = ap (has cells) (rw (zero-mul (8 ^ suc k)) (zero-add c))

pub one_list_per_set : OneListPerSet
one_list_per_set zero A B h a b = absurd (omega arith)
one_list_per_set (suc k) A B h a b = (same_set k A B a b, ap (sealed (suc k)))
