-- Every record of a growing list keeps the node rules.
use Rattle.std.proofs.Common.{◌≡◌, ℕ, zero, suc, ◌+◌, ◌*◌, ◌<◌, ◌≤◌, Bool, true, false, cond, List, [], ◌∷◌, ◌++◌, length, sym, refl, ap, ◌∙◌, subst, ⊎_elim, add-one, arith}
use Rattle.std.proofs.lemmas.Bool.{cond_both, cond-true, cond-false, cases_lt}
use Rattle.std.proofs.lemmas.List.{length_push, get_or_push, get_or_append_left}
use Rattle.cells.specs.Hall.{bit}
use Rattle.nodes.specs.Records.{none, blank}
use Rattle.nodes.specs.declared.node.Node.{Node}
use Rattle.dag.specs.Rules.{node_at, link_of}
use Rattle.dag.specs.Records.{occupied, link_to, record_of}
use Rattle.dag.specs.Sealed.{Begins}
use Rattle.dag.proofs.Lowest.{lowest_at}
use Rattle.dag.proofs.Growth.{begins_node}
use Rattle.dag.proofs.Known.{Known, ChildrenKnown}
use Rattle.dag.proofs.Parts.{mask_bit, link_is, mask_some}

-- a record with number n keeps the rules in a list, but for what a link that means none asks
pub record Fit (ns : List Node) (n : ℕ) (a : Node) : Type 0 where
  pub level : 1 ≤ a.level
  pub mask : 0 < a.mask
  pub low : a.level ≡ 1 → (i : ℕ) → i < 8 → link_of a i ≡ none
  pub free : (i : ℕ) → i < 8 → bit i a.mask ≡ 0 → link_of a i ≡ none
  pub lead : 1 < a.level → (i : ℕ) → i < 8 → bit i a.mask ≡ 1 → (link_of a i < n) × ((node_at ns (link_of a i)).level + 1 ≡ a.level)

pub fit_stays : (ns ms : List Node) (n : ℕ) (a : Node) → Begins ns ms → n ≤ length ns → Fit ns n a → Fit ms n a
fit_stays ns ms n a grows h f = record {
  level = f.level;
  mask = f.mask;
  low = f.low;
  free = f.free;
  lead = λ l i b e.
      let r = f.lead l i b e in
      (r.0, ap (λ c. c.level + 1) (begins_node ns ms (link_of a i) grows (omega (arith, r.0))) ∙ r.1);
}

-- every record keeps the rules
abbrev pub Sound : List Node → Type 0
Sound ns = (n : ℕ) → n < length ns → Fit ns n (node_at ns n)

pub sound_none : Sound []
sound_none n h = absurd (omega arith)

pub sound_push : (ns : List Node) (a : Node) → Sound ns → Fit ns (length ns) a → Sound (ns ++ a ∷ [])
sound_push ns a s f n h =
    let l = length_push ns a in
    ⊎_elim
    (λ b. subst (Fit (ns ++ a ∷ []) n) (sym (get_or_append_left ns (a ∷ []) blank n b))
    (fit_stays ns (ns ++ a ∷ []) n (node_at ns n) (a ∷ [], refl) (omega arith) (s n b)))
    (λ b. let e : length ns ≡ n = omega arith in
    subst (λ m. Fit (ns ++ a ∷ []) m (node_at (ns ++ a ∷ []) m)) e
    (subst (Fit (ns ++ a ∷ []) (length ns)) (sym (get_or_push ns a blank (length ns) refl))
    (fit_stays ns (ns ++ a ∷ []) (length ns) a (a ∷ [], refl) (omega arith) f)))
    (cases_lt n (length ns))

-- ---- the record of a sub-cube fits

no_bit : (b : Bool) → cond {A = ℕ} b 1 0 ≡ 0 → b ≡ false
no_bit true e = absurd (omega arith)
no_bit false e = refl

set_bit : (b : Bool) → cond {A = ℕ} b 1 0 ≡ 1 → b ≡ true
set_bit true e = refl
set_bit false e = absurd (omega arith)

-- the record that a link to an occupied, known sub-cube leads to
pub link_node : (cells : List ℕ) (ns : List Node) (k s : ℕ) → Known cells ns (suc k) s → node_at ns (link_to cells ns (suc k) s) ≡ record_of cells ns k s
unfolding link_to
link_node cells ns k s h = lowest_at ns (record_of cells ns k s) h.0

module _ (cells : List ℕ) (ns : List Node) (s : ℕ) where
  low_links : (k : ℕ) → suc k ≡ 1 → (i : ℕ) → i < 8 → link_of (record_of cells ns k s) i ≡ none
  unfolding link_to
  low_links zero e i b =
      link_is cells zero s (link_to cells ns zero) i b
      ∙ cond_both (occupied cells zero (8 * s + i)) none none (λ m. m ≡ none) (λ _. refl) (λ _. refl)
  low_links (suc k) e i b = absurd (omega arith)

  high_links : (k : ℕ) → ChildrenKnown cells ns k s → 1 < suc k → (i : ℕ) → i < 8 → bit i (record_of cells ns k s).mask ≡ 1
      → (link_of (record_of cells ns k s) i < length ns) × ((node_at ns (link_of (record_of cells ns k s) i)).level + 1 ≡ suc k)
  high_links zero h l i b e = absurd (omega arith)
  high_links (suc k) h l i b e =
      let o = set_bit (occupied cells (suc k) (8 * s + i)) (sym (mask_bit cells (suc k) s (link_to cells ns (suc k)) i b) ∙ e) in
      let m : link_of (record_of cells ns (suc k) s) i ≡ link_to cells ns (suc k) (8 * s + i) =
      link_is cells (suc k) s (link_to cells ns (suc k)) i b ∙ cond-true (occupied cells (suc k) (8 * s + i)) _ _ o in
      let q = h i b o in (
        rw m q.0,
        rw (m, link_node cells ns k (8 * s + i) q) (add-one (suc k)),
      )

  pub record_fits : (k : ℕ) → ChildrenKnown cells ns k s → occupied cells (suc k) s ≡ true → Fit ns (length ns) (record_of cells ns k s)
  record_fits k h o = record {
    level = omega arith;
    mask = mask_some cells k s (link_to cells ns k) o;
    low = low_links k;
    free = λ i b e.
        link_is cells k s (link_to cells ns k) i b
        ∙ cond-false (occupied cells k (8 * s + i)) _ _ (no_bit (occupied cells k (8 * s + i)) (sym (mask_bit cells k s (link_to cells ns k) i b) ∙ e));
    lead = high_links k h;
  }
