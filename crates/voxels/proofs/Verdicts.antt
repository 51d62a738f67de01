-- What the checks of a delivered list say of it.
use Rattle.std.proofs.Common.{◌≡◌, ℕ, zero, suc, ◌<◌, ◌≤◌, false, List, length, sym, ◌∙◌, arith}
use Rattle.std.proofs.lemmas.Bool.{and_from, both_ways, cond-true, cond-false, eq-eqb, lt-ltb, le-ltb}
use Rattle.nodes.specs.declared.node.Node.{Node}
use Rattle.dag.specs.Rules.{node_at}
use Rattle.dag.specs.Walk.{root}
use Rattle.dag.specs.Laws.{Nameable}
use Rattle.dag.specs.Delivered.{Seals, marked}
use Rattle.dag.specs.Sizes.{size}
use Rattle.dag.specs.Meets.{meet}
use Rattle.dag.specs.Judged.{cells_under}
use Rattle.dag.specs.Checks.{Countable, LinksDown, PassTo}
use Rattle.voxels.specs.Finds.{has_root}
use Rattle.dag.proofs.Meeting.{meet_past}
use Rattle.dag.proofs.Judging.{passes_seals, seals_passes}

pub links_down : (L : ℕ) (ns : List Node) → PassTo L ns (length ns) → LinksDown ns
links_down L ns each n h = (each n h).r3

pub root_countable : (L : ℕ) (ns : List Node) → 1 ≤ L → 0 < length ns → PassTo L ns (length ns) → (node_at ns (root ns)).level ≡ L → Countable ns L (root ns)
root_countable zero ns one some each level = tt
root_countable (suc K) ns one some each level = (level, omega arith, (suc K, λ j h. each j (omega arith)))

module _ (L : ℕ) (ns : List Node) (one : 1 ≤ L) (few : Nameable ns) where
  -- no set of cells seals to a list with a record that does not pass, with another root, or out of order
  pub not_each : (PassTo L ns (length ns) → ⊥) → Seals L ns → ⊥
  not_each h s = h (seals_passes L ns one few s).each

  pub not_root : 0 < length ns → ((node_at ns (root ns)).level ≡ L → ⊥) → Seals L ns → ⊥
  not_root some h s = h ((seals_passes L ns one few s).r4 some)

  pub not_rooted : 0 < length ns → has_root L ns ≡ false → Seals L ns → ⊥
  not_rooted some h = not_root some (λ e. both_ways _ h (and_from _ _ (lt-ltb 0 (length ns) some) (eq-eqb _ L e)))

  pub not_order : 0 < length ns → length ns < meet ns L (root ns) 0 → Seals L ns → ⊥
  not_order some h s = let e = (seals_passes L ns one few s).order some in omega arith

  -- a list without records seals no cells
  pub no_records : length ns ≡ 0 → PassTo L ns (length ns) → Seals L ns × (0 ≡ length (marked L ns))
  no_records none each =
      let p = passes_seals L ns one few (record { each = each; r4 = λ h. absurd (omega arith); order = λ h. absurd (omega arith) }) in
      (p.0, sym (p.1 ∙ under none))
    where
      under : length ns ≡ 0 → cells_under L ns ≡ 0
      under e = unfold cells_under in cond-false _ (size ns L (root ns)) 0 (le-ltb 0 (length ns) (omega arith))

  -- a list that passes
  pub passed : 0 < length ns → PassTo L ns (length ns) → (node_at ns (root ns)).level ≡ L → meet ns L (root ns) 0 ≤ length ns → Seals L ns × (size ns L (root ns) ≡ length (marked L ns))
  passed some each level within =
      let p = passes_seals L ns one few (record { each = each; r4 = λ h. level; order = λ h. all_met L one (root ns) within (omega arith) }) in
      (p.0, sym (p.1 ∙ under some))
    where
      under : 0 < length ns → cells_under L ns ≡ size ns L (root ns)
      under h = unfold cells_under in cond-true _ (size ns L (root ns)) 0 (lt-ltb 0 (length ns) h)

      all_met : (L : ℕ) → 1 ≤ L → (n : ℕ) → meet ns L n 0 ≤ length ns → length ns ≤ suc n → meet ns L n 0 ≡ length ns
      all_met zero one n within last = absurd (omega arith)
      all_met (suc K) one n within last = let b = meet_past ns (links_down L ns each) K n 0 within in omega arith
