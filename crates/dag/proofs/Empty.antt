-- A sub-cube without cells writes nothing.
use Rattle.std.proofs.Common.{◌≡◌, ℕ, zero, suc, ◌+◌, ◌*◌, ◌<◌, false, List, refl, ◌∙◌, arith}
use Rattle.std.proofs.lemmas.Bool.{ltb-false, le-ltb, cond-false}
use Rattle.nodes.specs.declared.node.Node.{Node}
use Rattle.dag.specs.Sets.{count}
use Rattle.dag.specs.Records.{first, occupied, record_of}
use Rattle.dag.specs.Sealed.{written, turn}
use Rattle.dag.proofs.Counts.{count_wider}
use Rattle.dag.proofs.Visits.{each, visit}
use Rattle.dag.proofs.Spans.{first_le, child_from, child_to}

-- a sub-cube is free exactly if it has no cell
pub count_free : (cells : List ℕ) (k s : ℕ) → occupied cells k s ≡ false → count cells (first k s) (first k (s + 1)) ≡ 0
count_free cells k s h = omega (arith, ltb-false 0 (count cells (first k s) (first k (s + 1))) h)

pub free_count : (cells : List ℕ) (k s : ℕ) → count cells (first k s) (first k (s + 1)) ≡ 0 → occupied cells k s ≡ false
free_count cells k s h = le-ltb 0 (count cells (first k s) (first k (s + 1))) (omega arith)

-- the children of a free sub-cube are free
pub child_free : (cells : List ℕ) (k s i : ℕ) → i < 8 → occupied cells (suc k) s ≡ false → occupied cells k (8 * s + i) ≡ false
child_free cells k s i l h =
    let z = count_free cells (suc k) s h in
    let w = count_wider cells (first (suc k) s) (first k (8 * s + i)) (first k (8 * s + i + 1)) (first (suc k) (s + 1))
    (child_from k s i) (first_le k (8 * s + i) (8 * s + i + 1) (omega arith)) (child_to k s i l) in
    free_count cells k (8 * s + i) (omega arith)

-- the turn of a free sub-cube leaves the list as it was
pub turn_free : (cells : List ℕ) (k s : ℕ) (ns : List Node) → occupied cells (suc k) s ≡ false → turn cells k s ns ≡ ns
unfolding turn
turn_free cells k s ns h = cond-false (occupied cells (suc k) s) (written ns (record_of cells ns k s)) ns h

each_same : (f : ℕ → List Node → List Node) (s n : ℕ) (ns : List Node) → ((i : ℕ) → i < n → (ms : List Node) → f (s + i) ms ≡ ms) → each f s n ns ≡ ns
unfolding each
each_same f s zero ns h = refl
each_same f s (suc n) ns h = h n (omega arith) (each f s n ns) ∙ each_same f s n ns (λ i l ms. h i (omega arith) ms)

-- and so does its whole visit
pub visit_free : (cells : List ℕ) (k s : ℕ) (ns : List Node) → occupied cells k s ≡ false → visit cells k s ns ≡ ns
unfolding visit
visit_free cells zero s ns h = refl
visit_free cells (suc k) s ns h =
    turn_free cells k s (each (visit cells k) (8 * s) 8 ns) h
    ∙ each_same (visit cells k) (8 * s) 8 ns (λ i l ms. visit_free cells k (8 * s + i) ms (child_free cells k s i l h))
