-- The laws of the sealed list.
use Rattle.std.proofs.Common.{◌≡◌, ℕ, zero, suc, ◌+◌, ◌-◌, ◌/◌, ◌^◌, ◌<◌, ◌≤◌, true, false, List, [], length, sym, refl, ap, ◌∙◌, subst, ⊎_elim, mod-lt, zero-mul, arith}
use native.Mathlib.Nat.{div-eq_of_lt}
use Rattle.std.proofs.lemmas.Bool.{cases_lt, cases_Bool, lt-ltb, eq-eqb}
use Rattle.cells.specs.Hall.{bit}
use Rattle.cells.specs.SubCubes.{sub_cube}
use Rattle.nodes.specs.declared.node.Node.{Node}
use Rattle.dag.specs.Sets.{count, holds, has}
use Rattle.dag.specs.Rules.{node_at, NodeRules, UpperLinks, Root}
use Rattle.dag.specs.Walk.{root, marks, rank}
use Rattle.dag.specs.Records.{first, lowest, occupied, record_of}
use Rattle.dag.specs.Sealed.{Begins, below, sealed}
use Rattle.dag.specs.Laws.{Nameable, KeepsRules, NoneTwice, MarksCells, RanksCells, Grows, Ends, NoneFromNone}
use Rattle.dag.proofs.Counts.{has_holds}
use Rattle.dag.proofs.Growth.{below_begins}
use Rattle.dag.proofs.Known.{ChildrenKnown}
use Rattle.dag.proofs.Sound.{Fit}
use Rattle.dag.proofs.Marks.{walk_is, rank_is, occupied_code, free_code}
use Rattle.dag.proofs.Whole.{sealed_sound, sealed_distinct, sealed_levels, sealed_free, sealed_known, root_inside, root_node}

-- ---- rules

upper_links : (ns : List Node) (n : ℕ) → n < length ns → Nameable ns → Fit ns n (node_at ns n) → UpperLinks ns n
upper_links ns n h few f l i b = (
  f.free i b,
  (λ e. let two = mod-lt ((node_at ns n).mask / 2 ^ i) {m = 2} (omega arith) in
      ⊎_elim
      (λ one. omega arith)
      (λ one. let r = (f.lead l i b (omega arith)).0 in absurd (omega arith))
      (cases_lt (bit i (node_at ns n).mask) 1)),
  f.lead l i b,
)

root_level : (K : ℕ) (cells : List ℕ) → Root (suc K) (sealed (suc K) cells)
root_level K cells h =
    ⊎_elim
    (λ o. ap (λ a. a.level) (root_node K cells o))
    (λ o. absurd (omega (arith, ap length (sealed_free (suc K) cells o))))
    (cases_Bool (occupied cells (suc K) 0))

rules_at : (K : ℕ) (cells : List ℕ) → Nameable (sealed (suc K) cells) → NodeRules (suc K) (sealed (suc K) cells)
rules_at K cells few =
    let S = sealed (suc K) cells in
    let f = sealed_sound (suc K) cells in
    record {
      r1 = λ n h. ((f n h).level, sealed_levels (suc K) cells n h, (f n h).mask);
      r2 = λ n h. (f n h).low;
      r3 = λ n h. upper_links S n h few (f n h);
      r4 = root_level K cells;
    }

-- a law that holds at every level above 0 holds at every level from 1 on
from_one : (P : ℕ → Type 0) → ((K : ℕ) → P (suc K)) → (L : ℕ) → 1 ≤ L → P L
from_one P h zero l = absurd (omega arith)
from_one P h (suc K) l = h K

pub keeps_rules : KeepsRules
keeps_rules L cells one few =
    from_one (λ L. Nameable (sealed L cells) → NodeRules L (sealed L cells)) (λ K. rules_at K cells) L one few

pub none_twice : NoneTwice
none_twice L cells m n hm hn e =
    sym (sealed_distinct L cells m hm) ∙ ap (lowest (sealed L cells)) e ∙ sealed_distinct L cells n hn

-- ---- marks and ranks

whole_hall : (L code : ℕ) → code < 8 ^ L → sub_cube L code ≡ 0
whole_hall L code h = div-eq_of_lt h

marks_at : (K : ℕ) (cells : List ℕ) → Nameable (sealed (suc K) cells) → (code : ℕ) → code < 8 ^ suc K → marks (suc K) (sealed (suc K) cells) code ≡ has cells code
marks_at K cells few code h =
    ⊎_elim
    (λ o.
    let inside = root_inside K cells o in
    let node = root_node K cells o in
    let z = whole_hall (suc K) code h in
    let w = walk_is cells S (sealed_sound (suc K) cells) few K (root S) code inside
    (node ∙ ap (record_of cells S K) (sym z)) (subst (ChildrenKnown cells S K) (sym z) (sealed_known (suc K) cells o).1) in
    rw (lt-ltb 0 (length S) (omega arith), eq-eqb (node_at S (root S)).level (suc K) (ap (λ a. a.level) node)) (w ∙ sym (has_holds cells code)))
    (λ o.
    let z = whole_hall (suc K) code h in
    ap (λ ns. marks (suc K) ns code) (sealed_free (suc K) cells o)
    ∙ sym (has_holds cells code ∙ free_code cells (suc K) code (ap (occupied cells (suc K)) z ∙ o)))
    (cases_Bool (occupied cells (suc K) 0))
  where
    S : List Node
    S = sealed (suc K) cells

pub marks_cells : MarksCells
marks_cells L cells one few code h =
    from_one (λ L. Nameable (sealed L cells) → code < 8 ^ L → marks L (sealed L cells) code ≡ has cells code)
    (λ K few h. marks_at K cells few code h) L one few h

ranks_at : (K : ℕ) (cells : List ℕ) (code : ℕ) → code < 8 ^ suc K → has cells code ≡ true → rank (suc K) (sealed (suc K) cells) code ≡ count cells 0 code
ranks_at K cells code h e =
    let q : holds cells code (code + 1) ≡ true = sym (has_holds cells code) ∙ e in
    let z = whole_hall (suc K) code h in
    let o : occupied cells (suc K) 0 ≡ true = ap (occupied cells (suc K)) (sym z) ∙ occupied_code cells (suc K) code q in
    rank_is cells (sealed (suc K) cells) K (root (sealed (suc K) cells)) code
    (root_node K cells o ∙ ap (record_of cells (sealed (suc K) cells) K) (sym z))
    (subst (ChildrenKnown cells (sealed (suc K) cells) K) (sym z) (sealed_known (suc K) cells o).1) q
    ∙ ap (λ a. count cells a code) (ap (first (suc K)) z ∙ zero-mul (8 ^ suc K))

pub ranks_cells : RanksCells
ranks_cells L cells one code h e =
    from_one (λ L. code < 8 ^ L → rank L (sealed L cells) code ≡ count cells 0 code) (λ K h. ranks_at K cells code h e) L one h

-- ---- growth

pub grows : Grows
grows L cells m n h =
    subst (λ k. Begins (below L cells m) (below L cells k)) (omega arith) (below_begins L cells m (n - m))

pub ends : Ends
ends L cells = refl

pub none_from_none : NoneFromNone
none_from_none L = sealed_free L [] nothing
  where
    nothing : occupied [] L 0 ≡ false
    nothing = unfold count in refl
