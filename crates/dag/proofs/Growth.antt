-- The list only grows.
use Rattle.std.proofs.Common.{◌≡◌, ℕ, zero, suc, ◌+◌, ◌<◌, ◌≤◌, List, [], ◌∷◌, ◌++◌, length, sym, refl, ap, ◌∙◌, subst, append_assoc, suc-add, zero-add, arith}
use Rattle.std.proofs.lemmas.Bool.{cond_both}
use Rattle.std.proofs.lemmas.List.{append-nil, length-append, get_or_append_left}
use Rattle.cells.specs.SubCubes.{sub_cube}
use Rattle.nodes.specs.Records.{blank}
use Rattle.nodes.specs.declared.node.Node.{Node}
use Rattle.dag.specs.Rules.{node_at}
use Rattle.dag.specs.Records.{occupied, record_of}
use Rattle.dag.specs.Sealed.{Begins, there, written, turn, ends, closing, below}

pub begins_self : (ns : List Node) → Begins ns ns
begins_self ns = ([], sym (append-nil ns))

pub begins_trans : (ns ms ls : List Node) → Begins ns ms → Begins ms ls → Begins ns ls
begins_trans ns ms ls f g = (f.0 ++ g.0, g.1 ∙ ap (λ xs. xs ++ g.0) f.1 ∙ append_assoc ns f.0 g.0)

pub begins_length : (ns ms : List Node) → Begins ns ms → length ns ≤ length ms
begins_length ns ms f = rw (f.1, length-append ns f.0) (omega arith)

-- a record keeps its number
pub begins_node : (ns ms : List Node) (n : ℕ) → Begins ns ms → n < length ns → node_at ms n ≡ node_at ns n
begins_node ns ms n f h = ap (λ xs. node_at xs n) f.1 ∙ get_or_append_left ns f.0 blank n h

pub written_begins : (ns : List Node) (a : Node) → Begins ns (written ns a)
written_begins ns a =
    cond_both (there ns a) ns (ns ++ a ∷ []) (Begins ns) (λ e. begins_self ns) (λ e. (a ∷ [], refl))

pub turn_begins : (cells : List ℕ) (k s : ℕ) (ns : List Node) → Begins ns (turn cells k s ns)
unfolding turn
turn_begins cells k s ns =
    cond_both (occupied cells (suc k) s) (written ns (record_of cells ns k s)) ns (Begins ns)
    (λ e. written_begins ns (record_of cells ns k s)) (λ e. begins_self ns)

pub closing_begins : (cells : List ℕ) (code k : ℕ) (ns : List Node) → Begins ns (closing cells code k ns)
unfolding closing
closing_begins cells code zero ns = begins_self ns
closing_begins cells code (suc k) ns =
    let ih = closing_begins cells code k ns in
    cond_both (ends (suc k) code) (turn cells k (sub_cube (suc k) code) (closing cells code k ns)) (closing cells code k ns) (Begins ns)
    (λ e. begins_trans _ _ _ ih (turn_begins cells k (sub_cube (suc k) code) (closing cells code k ns))) (λ e. ih)

-- the list below a code is a beginning of the list below any higher code
pub below_begins : (L : ℕ) (cells : List ℕ) (m n : ℕ) → Begins (below L cells m) (below L cells (n + m))
below_begins L cells m zero = subst (λ k. Begins (below L cells m) (below L cells k)) (sym (zero-add m)) (begins_self (below L cells m))
below_begins L cells m (suc n) =
    subst (λ k. Begins (below L cells m) (below L cells k)) (sym (suc-add n m))
    (begins_trans _ _ _ (below_begins L cells m n) (step (n + m)))
  where
    step : (k : ℕ) → Begins (below L cells k) (below L cells (suc k))
    step k = unfold below in closing_begins cells k L (below L cells k)
