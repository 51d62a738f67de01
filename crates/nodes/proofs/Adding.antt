-- Adding to a pool that has room.
use Rattle.std.proofs.Common.{◌≡◌, ℕ, ◌<◌, List, [], ◌∷◌, ◌++◌, length, sym, ap, ◌∙◌}
use Rattle.std.proofs.lemmas.Bool.{lt-leb, cond-false}
use Rattle.cells.specs.Refusals.{Answer, gives, refuse_if}
use Rattle.nodes.specs.declared.node.Node.{Node}
use Rattle.nodes.specs.Pools.{added, full}

pub added_room : (xs : List Node) (p : ℕ) (x : Node) → length xs < p → added xs p x ≡ xs ++ x ∷ []
added_room xs p x lt = cond-false (full xs p) xs (xs ++ x ∷ []) (lt-leb p (length xs) lt)

pub accepts : (xs : List Node) (p n : ℕ) → length xs < p → n ≡ length xs → ◌≡◌ {A = Answer ℕ} (gives n) (refuse_if (full xs p) 6 (gives (length xs)))
accepts xs p n lt e = ap gives e ∙ ap (λ t. refuse_if t 6 (gives (length xs))) (sym (lt-leb p (length xs) lt))
