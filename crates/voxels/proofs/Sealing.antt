-- What seal makes of an open map.
use Rattle.std.proofs.Common.{◌≡◌, ℕ, ◌^◌, ◌<◌, ◌≤◌, true, leb, List, length, Some, None, Option, sym, refl, ap, ◌∙◌, subst, arith}
use Rattle.std.proofs.lemmas.Bool.{ltb-true, lt-ltb, leb-false, le-ltb}
use Rattle.cells.specs.Refusals.{Answer, gives, refuses, refuse_if}
use Rattle.cells.specs.Hall.{levels_fit}
use Rattle.cells.proofs.Checks.{passed}
use Rattle.nodes.specs.declared.node.Node.{Node}
use Rattle.dag.specs.Sealed.{below, sealed}
use Rattle.dag.proofs.Depends.{below_none}
use Rattle.voxels.specs.declared.phase.Phase.{Phase}
use Rattle.voxels.specs.declared.phase.Phase.TheVariants.{Void, Open, Sealed}
use Rattle.voxels.specs.declared.row.OpenRow.{OpenRow}
use Rattle.voxels.specs.Phases.{if_open, levels_in, last_in}
use Rattle.voxels.specs.Places.{seal_told}
use Rattle.voxels.specs.Stages.{AtStage}
use Rattle.voxels.specs.Stands.{OpenAs, SealedAs, Building}

given_same : (a b : ℕ) → gives a ≡ gives b → a ≡ b
given_same a b e = cc

-- where the levels of an open map are given, the map is open, and they are its levels
pub open_is : (phase : Phase) (L n : ℕ) → gives n ≡ if_open phase (gives L) → (phase ≡ Open) × (n ≡ L)
open_is Open L n e = (refl, given_same n L e)
open_is Sealed L n e = let z : ◌≡◌ {A = ℕ} 0 1 = cc in absurd (omega arith)
open_is (Void refusal) L n e = let z : ◌≡◌ {A = ℕ} 0 1 = cc in absurd (omega arith)

-- a code that passed the check is one of the hall
pub code_checked : (n code : ℕ) → ◌≡◌ {A = Answer (Unit {0})} (gives tt) (refuse_if (leb n code) 3 (gives tt)) → code < n
code_checked n code e = let h = leb-false n code (passed (leb n code) 3 (gives tt) tt e).0 in omega arith

-- an open map has 1 to 10 levels, and its last code is one of the hall
pub open_fit : (phase : Phase) (L : ℕ) → phase ≡ Open → levels_in phase L ≡ true → levels_fit L ≡ true
open_fit phase L z e = ap (λ h. levels_in h L) (sym z) ∙ e

pub last_below : (o : Option ℕ) (L m : ℕ) → o ≡ Some m → last_in o L ≡ true → m < 8 ^ L
last_below o L m z e = ltb-true m (8 ^ L) (ap (λ p. last_in p L) (sym z) ∙ e)

-- a pool with room for the sealed list does not refuse, and one without does
pub seal_gives : (L : ℕ) (cells : List ℕ) (room : ℕ) → length (sealed L cells) ≤ room → gives tt ≡ seal_told L cells room
seal_gives L cells room h = ap (λ b. refuse_if b 6 (gives tt)) (sym (le-ltb room (length (sealed L cells)) h))

pub seal_refuses : (L : ℕ) (cells : List ℕ) (room n : ℕ) → n ≡ 6 → room < length (sealed L cells) → refuses n ≡ seal_told L cells room
seal_refuses L cells room n e h = ap refuses e ∙ ap (λ b. refuse_if b 6 (gives tt)) (sym (lt-ltb room (length (sealed L cells)) h))

module _ {K : Type 0} (word_of : K → ℕ) (L : ℕ) (cells : List ℕ) (tags : List K) (phase : Phase) (levels : ℕ) (last : Option ℕ) (ns : List Node) (rows : List OpenRow) (words : List ℕ)
    (stands : OpenAs word_of L cells tags phase levels last ns rows words) where
  -- the stage at which the closing begins
  pub begins_at : (m : ℕ) → last ≡ Some m → AtStage levels cells m 0 ns rows
  begins_at m e =
      let b : Building L cells (Some m) ns rows = subst (λ o. Building L cells o ns rows) e stands.building in
      subst (λ l. AtStage l cells m 0 ns rows) (sym stands.levels_are) b.1

  -- without cells the list is empty
  pub nothing_placed : last ≡ None → ns ≡ sealed L cells
  nothing_placed e =
      let b : Building L cells None ns rows = subst (λ o. Building L cells o ns rows) e stands.building in
      b.1 ∙ sym (below_none L (8 ^ L)) ∙ ap (λ cs. below L cs (8 ^ L)) (sym b.0)

  pub seals : (after : Phase) (count : ℕ) (ms : List Node) (more : List ℕ) → after ≡ Sealed → count ≡ levels → ms ≡ sealed L cells → more ≡ words → SealedAs word_of L cells tags after count ms more
  seals after count ms more e l f h = record { phase_is = e; levels_are = l ∙ stands.levels_are; set = stands.set; list = f; words_are = h ∙ stands.words_are; tag_each = stands.tag_each }
