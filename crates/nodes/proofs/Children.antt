-- The number that stands for a child.
use Rattle.std.proofs.Common.{◌≡◌, ℕ, ◌<◌, ◌≤◌, ltb, List, get_or, replicate, ◌∙◌, ⊎_elim}
use Rattle.std.proofs.lemmas.List.{get_or-replicate}
use Rattle.std.proofs.lemmas.Bool.{cond-true, cond-false, lt-ltb, le-ltb, cases_lt}
use Rattle.nodes.specs.Records.{of_child, children}

pub child_inside : (i : ℕ) (xs : List ℕ) → i < children → of_child i xs ≡ get_or xs i 0
child_inside i xs lt = cond-true (ltb i children) (get_or xs i 0) 0 (lt-ltb i children lt)

pub child_past : (i : ℕ) (xs : List ℕ) → children ≤ i → of_child i xs ≡ 0
child_past i xs le = cond-false (ltb i children) (get_or xs i 0) 0 (le-ltb i children le)

-- of a blank record it is 0
pub child_blank : (i : ℕ) → of_child i (replicate children 0) ≡ 0
child_blank i =
    ⊎_elim (λ h. child_inside i (replicate children 0) h ∙ get_or-replicate children i 0 0 h) (λ h. child_past i (replicate children 0) h) (cases_lt i children)
