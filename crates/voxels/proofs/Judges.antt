-- Counting under records, as the code steps.
use Rattle.std.proofs.Common.{◌≡◌, ℕ, zero, suc, ◌+◌, ◌-◌, ◌^◌, ◌<◌, ◌≤◌, List, length, Some, None, Option, sym, ap, ◌∙◌, subst, ⊎_elim, add-one, arith, MatchOption}
use Rattle.std.specs.Option.{unwrap_or}
use Rattle.std.proofs.lemmas.Bool.{cases_lt}
use Rattle.nodes.specs.declared.node.Node.{Node}
use Rattle.dag.specs.Rules.{node_at, link_of, offset_of}
use Rattle.dag.specs.Laws.{Nameable}
use Rattle.dag.specs.Records.{lowest}
use Rattle.dag.specs.Sizes.{size}
use Rattle.dag.specs.Meets.{meet, meet_children}
use Rattle.dag.specs.Judged.{NodePasses, Shaped}
use Rattle.dag.specs.Checks.{ChildRight, Countable, Here, LinksDown}
use Rattle.nodes.specs.Finding.{LowestFrom}
use Rattle.dag.proofs.Lowest.{lowest_most}
use Rattle.voxels.proofs.Numbering.{found_lowest, absent_new}
use Rattle.dag.proofs.LastChild.{highest_set, size_last}
use Rattle.dag.proofs.Turns.{here_inside, left_next, left_late}
use Rattle.dag.proofs.Checks.{bottom_from, upper_from, offsets_from, step_countable}
use Rattle.voxels.specs.Judges.{Met}

-- one step down to the last child
pub step_down : (ns : List Node) → Nameable ns → (k n j : ℕ) → 0 < k → Countable ns k n → j < 8 → 2 ^ j ≤ (node_at ns n).mask → (node_at ns n).mask < 2 ^ (j + 1)
    → (size ns k n ≡ offset_of (node_at ns n) j + size ns (k - 1) (link_of (node_at ns n) j)) × Countable ns (k - 1) (link_of (node_at ns n) j)
step_down ns few zero n j h c l low high = absurd (omega arith)
step_down ns few (suc k) n j h c l low high =
    let e : k ≡ suc k - 1 = omega arith in
    let top : (2 ^ j ≤ (node_at ns n).mask) × ((node_at ns n).mask < 2 ^ suc j) = (low, subst (λ x. (node_at ns n).mask < 2 ^ x) (add-one j) high) in
    subst (λ q. (size ns (suc k) n ≡ offset_of (node_at ns n) j + size ns q (link_of (node_at ns n) j)) × Countable ns q (link_of (node_at ns n) j)) e
    (size_last ns k n j c.0 (c.2.1 n (omega arith)).offsets l top, step_countable ns k n j few l c (highest_set (node_at ns n) j top))

-- a record under which cells can be counted has a child
pub some_mask : (ns : List Node) (k n : ℕ) → 0 < k → Countable ns k n → 0 < (node_at ns n).mask
some_mask ns zero n h c = absurd (omega arith)
some_mask ns (suc k) n h c = (c.2.1 n (omega arith)).r1.2

-- the lowest number of an equal record, by what the search answers
pub lowest_or : (ns : List Node) (node : Node) (r : Option ℕ) → LowestFrom 0 ns node r → unwrap_or r (length ns) ≡ lowest ns node
lowest_or ns node (Some n) f = found_lowest ns node n f
lowest_or ns node None f =
    let most = lowest_most ns node in
    let new = absent_new ns node f in
    omega arith

-- ---- one record

module _ (L : ℕ) (ns : List Node) (few : Nameable ns) (n : ℕ) (inside : n < length ns) (node : Node) (is : node ≡ node_at ns n)
    (level : ℕ) (level-is : level ≡ node.level) (some : level ≡ 0 → ⊥) where
  abbrev k : ℕ
  k = level - 1

  above : (node_at ns n).level ≡ suc k
  above =
      let e = ap (λ a. a.level) is in
      ⊎_elim (λ l. omega arith) (λ l. absurd (some (omega arith))) (cases_lt 0 level)

  -- a record that is the lowest of its kind and whose parts are right passes
  pub fits_from : node.mask < 256 → length node.links ≡ 8 → length node.offsets ≡ 8 → level ≤ L → (node.mask ≡ 0 → ⊥)
      → ((i : ℕ) → i < 8 → ChildRight ns k n i) → n ≡ lowest ns node → NodePasses L ns n
  fits_from mask links offsets low set kids first =
      let e = above in
      record {
        shape = subst Shaped is (record { mask_fits = mask; eight_links = links; eight_offsets = offsets });
        r1 = (omega arith, omega arith, subst (λ a. 0 < a.mask) is (⊎_elim (λ l. l) (λ l. absurd (set (omega arith))) (cases_lt 0 node.mask)));
        r2 = bottom_from ns few n inside k e kids;
        r3 = upper_from ns few n inside k e kids;
        offsets = offsets_from ns few n inside k e kids;
        alone = sym (first ∙ ap (lowest ns) is);
      }

  -- a record that passes is the lowest of its kind
  pub lowest_from : NodePasses L ns n → n ≡ lowest ns node
  lowest_from p = sym (ap (lowest ns) is ∙ p.alone)

-- ---- leaving a record

pub left_by : (ns : List Node) → LinksDown ns → (k n m met : ℕ) → 0 < k → Here ns k n → m ≤ n → met ≡ meet_children ns (k - 1) n 8 m
    → (r : Option ℕ) → MatchOption r (n ≡ met → ⊥) (λ x. (n ≡ met) × (x ≡ n + 1)) → Met (length ns) (meet ns k n m) r
left_by ns down k n m met up here low is None h = left_late ns down n m k up low (λ e. h (e ∙ sym is))
left_by ns down k n m met up here low is (Some x) h =
    let inside = here_inside ns down n m k up here in
    (h.1 ∙ sym (left_next ns down n m k up low (h.0 ∙ is)), omega (arith, h.1))
