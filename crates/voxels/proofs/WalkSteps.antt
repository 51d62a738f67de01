-- One step of a walk, by what the code reads of a record.
use Rattle.std.proofs.Common.{◌≡◌, ℕ, zero, suc, ◌+◌, ◌*◌, ◌/◌, ◌%◌, ◌^◌, ◌<◌, ◌≤◌, Bool, true, false, cond, eqb, not, List, [], length, Some, None, sym, refl, ap, ◌∙◌, subst, add-zero, mod-lt, arith}
use Rattle.std.proofs.lemmas.Bool.{and_from, and_left, and_right, lt-ltb, le-ltb, eq-eqb, ne_eqb, eqb-true, eqb-false}
use Rattle.cells.specs.Hall.{bit}
use Rattle.cells.specs.SubCubes.{child, sub_cube}
use Rattle.cells.proofs.Codes.{eight}
use Rattle.nodes.specs.Records.{none}
use Rattle.nodes.specs.declared.node.Node.{Node}
use Rattle.dag.specs.Rules.{node_at, link_of, offset_of}
use Rattle.dag.specs.Walk.{leads, walk, path, total, root, rank}
use Rattle.dag.proofs.Marks.{child_is, walk_shut, walk_stray, walk_on, path_more, path_none}
use Rattle.voxels.specs.Finds.{Shut, GoesTo, found}

-- the child that the code takes is that of the definition
pub child_taken : (k code : ℕ) → code / 2 ^ (3 * k) % 8 ≡ child (suc k) code
child_taken k code = ap (λ p. code / p % 8) (eight k) ∙ sym (child_is k code)

-- a bit of a mask is set, or it is not
pub bit_set : (i m : ℕ) (b : Bool) → b ≡ eqb (bit i m) 1 → b ≡ true → bit i m ≡ 0 → ⊥
bit_set i m b e t z = let one = eqb-true (bit i m) 1 (sym e ∙ t) in omega arith

pub bit_clear : (i m : ℕ) (b : Bool) → b ≡ eqb (bit i m) 1 → b ≡ false → bit i m ≡ 0
bit_clear i m b e t =
    let two = mod-lt (m / 2 ^ i) {m = 2} (omega arith) in
    let other = eqb-false (bit i m) 1 (sym e ∙ t) in
    omega arith

module _ (ns : List Node) (k n i : ℕ) where
  pub shut : bit i (node_at ns n).mask ≡ 0 → Shut ns k n i
  shut e code c = walk_shut ns k n code (ap (λ j. bit j (node_at ns n).mask) c ∙ e)

  set_bit : (bit i (node_at ns n).mask ≡ 0 → ⊥) → bit i (node_at ns n).mask ≡ 1
  set_bit h = let b = mod-lt ((node_at ns n).mask / 2 ^ i) {m = 2} (omega arith) in omega arith

  -- a step that goes on, where the link leads
  pub onward : (bit i (node_at ns n).mask ≡ 0 → ⊥) → (next : ℕ) → leads ns n k (link_of (node_at ns n) i) ≡ true
      → ((code : ℕ) → walk ns k (link_of (node_at ns n) i) code ≡ walk ns k next code) → ((code : ℕ) → path ns k (link_of (node_at ns n) i) code ≡ path ns k next code)
      → next < length ns → offset_of (node_at ns n) i < 2 ^ 32 → GoesTo ns k n i next (offset_of (node_at ns n) i)
  onward b next l w p h s = record {
    walks = λ code c.
        walk_on ns k n code (ap (λ j. bit j (node_at ns n).mask) c ∙ set_bit b) (subst (λ j. leads ns n k (link_of (node_at ns n) j) ≡ true) (sym c) l)
        ∙ ap (λ j. walk ns k (link_of (node_at ns n) j) code) c ∙ w code;
    adds = λ code c.
        path_more [] ns k n code
        ∙ ap (λ j. offset_of (node_at ns n) j + total (path ns k (link_of (node_at ns n) j) code)) c
        ∙ ap (λ q. offset_of (node_at ns n) i + total q) (p code);
    inside = h;
    small = s;
  }

  -- a link that does not lead on
  pub stray : leads ns n k (link_of (node_at ns n) i) ≡ false → Shut ns k n i
  stray l code c = walk_stray ns k n code (subst (λ j. leads ns n k (link_of (node_at ns n) j) ≡ false) (sym c) l)

-- on level 1 every step that is not shut ends at the cell
pub at_cell : (ns : List Node) (k n i : ℕ) → k ≡ 0 → (bit i (node_at ns n).mask ≡ 0 → ⊥) → n < length ns
    → offset_of (node_at ns n) i < 2 ^ 32 → GoesTo ns k n i n (offset_of (node_at ns n) i)
at_cell ns k n i z =
    subst (λ k. (bit i (node_at ns n).mask ≡ 0 → ⊥) → n < length ns → offset_of (node_at ns n) i < 2 ^ 32 → GoesTo ns k n i n (offset_of (node_at ns n) i))
    (sym z) (λ b h s. unfold walk path in onward ns 0 n i b n refl (λ code. refl) (λ code. refl) h s)

-- above level 1 a link leads on exactly if it names an earlier record of the level below
leads_true : (ns : List Node) (n k m : ℕ) → 0 < k → m < n → n < length ns → length ns ≤ none → (node_at ns m).level ≡ k → leads ns n k m ≡ true
leads_true ns n zero m z h l few e = absurd (omega arith)
leads_true ns n (suc k) m z h l few e =
    and_from _ _ (and_from _ _ (ap not (ne_eqb m none (λ x. absurd (omega arith)))) (lt-ltb m n h)) (eq-eqb _ (suc k) e)

leads_late : (ns : List Node) (n k m : ℕ) → 0 < k → n ≤ m → leads ns n k m ≡ false
leads_late ns n zero m z h = absurd (omega arith)
leads_late ns n (suc k) m z h = and_left _ _ (and_right _ _ (le-ltb m n h))

leads_other : (ns : List Node) (n k m : ℕ) → 0 < k → ((node_at ns m).level ≡ k → ⊥) → leads ns n k m ≡ false
leads_other ns n zero m z h = absurd (omega arith)
leads_other ns n (suc k) m z h = and_right _ _ (ne_eqb _ (suc k) h)

module _ (ns : List Node) (k n i : ℕ) (up : 0 < k) (next : ℕ) (is : next ≡ link_of (node_at ns n) i) where
  pub late : n ≤ next → Shut ns k n i
  late h = stray ns k n i (subst (λ m. leads ns n k m ≡ false) is (leads_late ns n k next up h))

  pub other_level : ((node_at ns next).level ≡ k → ⊥) → Shut ns k n i
  other_level h = stray ns k n i (subst (λ m. leads ns n k m ≡ false) is (leads_other ns n k next up h))

  pub goes_on : (bit i (node_at ns n).mask ≡ 0 → ⊥) → next < n → n < length ns → length ns ≤ none → (node_at ns next).level ≡ k
      → offset_of (node_at ns n) i < 2 ^ 32 → GoesTo ns k n i next (offset_of (node_at ns n) i)
  goes_on b h l few e s =
      onward ns k n i b next (subst (λ m. leads ns n k m ≡ true) is (leads_true ns n k next up h l few e))
      (λ code. ap (λ m. walk ns k m code) (sym is)) (λ code. ap (λ m. path ns k m code) (sym is)) (omega arith) s

-- a walk that has come to level 0 has found its code
pub found_end : (L : ℕ) (ns : List Node) (code k n sum : ℕ) → 0 < length ns → (node_at ns (root ns)).level ≡ L → k ≡ 0
    → walk ns L (root ns) code ≡ walk ns k n code → total (path ns L (root ns) code) ≡ sum + total (path ns k n code) → Some sum ≡ found L ns code
found_end L ns code k n sum some level z w p =
    let v : walk ns L (root ns) code ≡ true = w ∙ ap (λ j. walk ns j n code) z ∙ arrived in
    let r : sum ≡ total (path ns L (root ns) code) = sym (p ∙ ap (λ j. sum + total (path ns j n code)) z ∙ ap (λ t. sum + t) (path_none [] ns n code) ∙ add-zero sum) in
    rw (lt-ltb 0 (length ns) some, eq-eqb (node_at ns (root ns)).level L level, v) (ap Some r)
  where
    arrived : walk ns 0 n code ≡ true
    arrived = unfold walk in refl

-- a walk that is shut has found nothing
pub found_free : (L : ℕ) (ns : List Node) (code : ℕ) → walk ns L (root ns) code ≡ false → None ≡ found L ns code
found_free L ns code e = ap (λ b. cond b (Some (rank L ns code)) None) (sym (and_right _ _ e))

-- the child that the code takes is that of the definition
takes : (k i code : ℕ) → i ≡ sub_cube k code % 8 → child (suc k) code ≡ i
takes k i code e = child_is k code ∙ sym e

-- a step on the way to a code, from a record of level k to one of the level below
module _ (ns : List Node) (k below n code i : ℕ) (up : k ≡ suc below) (e : i ≡ sub_cube below code % 8) where
  pub step_walks : (next offset : ℕ) → GoesTo ns below n i next offset → walk ns k n code ≡ walk ns below next code
  step_walks next offset g = ap (λ l. walk ns l n code) up ∙ g.walks code (takes below i code e)

  pub step_adds : (next offset : ℕ) → GoesTo ns below n i next offset → total (path ns k n code) ≡ offset + total (path ns below next code)
  step_adds next offset g = ap (λ l. total (path ns l n code)) up ∙ g.adds code (takes below i code e)

  -- and one that is shut
  pub step_shut : Shut ns below n i → walk ns k n code ≡ false
  step_shut s = ap (λ l. walk ns l n code) up ∙ s code (takes below i code e)
