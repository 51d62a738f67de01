-- The lowest number of an equal record.
use Rattle.std.proofs.Common.{◌≡◌, ℕ, zero, suc, ◌<◌, ◌≤◌, true, false, cond, eqb, List, [], ◌∷◌, ◌++◌, length, refl, ap, ap₂, arith}
use Rattle.std.proofs.lemmas.Bool.{eqb-true, eq-eqb, and_parts, and_from, cond_both}
use Rattle.nodes.specs.declared.node.Node.{Node}
use Rattle.dag.specs.Rules.{node_at}
use Rattle.dag.specs.Records.{same_numbers, same_node, lowest}

same_numbers_lem : (xs ys : List ℕ) → same_numbers xs ys ≡ true → xs ≡ ys
same_numbers_lem [] [] e = refl
same_numbers_lem [] (y ∷ ys) e = let z : ◌≡◌ {A = ℕ} 0 1 = cc in absurd (omega arith)
same_numbers_lem (x ∷ xs) [] e = let z : ◌≡◌ {A = ℕ} 0 1 = cc in absurd (omega arith)
same_numbers_lem (x ∷ xs) (y ∷ ys) e =
    let p = and_parts (eqb x y) (same_numbers xs ys) e in
    ap₂ (λ a b. a ∷ b) (eqb-true x y p.0) (same_numbers_lem xs ys p.1)

numbers_same : (xs : List ℕ) → same_numbers xs xs ≡ true
numbers_same [] = refl
numbers_same (x ∷ xs) = and_from (eqb x x) (same_numbers xs xs) (eq-eqb x x refl) (numbers_same xs)

-- comparing two records decides whether they are equal
pub same_node_lem : (a b : Node) → same_node a b ≡ true → a ≡ b
same_node_lem a b e =
    let p = and_parts _ _ e in
    let q = and_parts _ _ p.0 in
    let r = and_parts _ _ q.0 in
    λ i. record {
      level = eqb-true a.level b.level r.0 i;
      mask = eqb-true a.mask b.mask r.1 i;
      links = same_numbers_lem a.links b.links q.1 i;
      offsets = same_numbers_lem a.offsets b.offsets p.1 i;
    }

pub node_same : (a : Node) → same_node a a ≡ true
node_same a =
    and_from _ _ (and_from _ _ (and_from _ _ (eq-eqb a.level a.level refl) (eq-eqb a.mask a.mask refl)) (numbers_same a.links))
    (numbers_same a.offsets)

pub lowest_most : (ns : List Node) (a : Node) → lowest ns a ≤ length ns
unfolding lowest
lowest_most [] a = omega arith
lowest_most (n ∷ ns) a =
    cond_both (same_node n a) 0 (suc (lowest ns a)) (λ m. m ≤ suc (length ns)) (λ e. omega arith) (λ e. omega (arith, lowest_most ns a))

-- the record with that number is an equal one
pub lowest_at : (ns : List Node) (a : Node) → lowest ns a < length ns → node_at ns (lowest ns a) ≡ a
unfolding lowest
lowest_at [] a h = absurd (omega arith)
lowest_at (n ∷ ns) a h =
    elim (same_node n a) as (λ t. same_node n a ≡ t → cond t 0 (suc (lowest ns a)) < suc (length ns) → node_at (n ∷ ns) (cond t 0 (suc (lowest ns a))) ≡ a)
    [ true ↦ (λ e l. same_node_lem n a e) | false ↦ (λ e l. lowest_at ns a (omega arith)) ] refl h

-- a record that is there has a number
pub lowest_there : (ns : List Node) (n : ℕ) → n < length ns → lowest ns (node_at ns n) ≤ n
unfolding lowest
lowest_there [] n h = absurd (omega arith)
lowest_there (a ∷ ns) zero h = rw (node_same a) (omega arith)
lowest_there (a ∷ ns) (suc n) h =
    cond_both (same_node a (node_at ns n)) 0 (suc (lowest ns (node_at ns n))) (λ m. m ≤ suc n) (λ e. omega arith)
    (λ e. omega (arith, lowest_there ns n (omega arith)))

-- a record that is in the list keeps its number when the list grows
pub lowest_stays : (ns ms : List Node) (a : Node) → lowest ns a < length ns → lowest (ns ++ ms) a ≡ lowest ns a
unfolding lowest
lowest_stays [] ms a h = absurd (omega arith)
lowest_stays (n ∷ ns) ms a h =
    elim (same_node n a) as (λ t. cond t 0 (suc (lowest ns a)) < suc (length ns) → cond t 0 (suc (lowest (ns ++ ms) a)) ≡ cond t 0 (suc (lowest ns a)))
    [ true ↦ (λ l. refl) | false ↦ (λ l. ap suc (lowest_stays ns ms a (omega arith))) ] h

-- a record that is not in the list gets the next number
pub lowest_new : (ns : List Node) (a : Node) → length ns ≤ lowest ns a → lowest (ns ++ a ∷ []) a ≡ length ns
unfolding lowest
lowest_new [] a h = rw (node_same a) refl
lowest_new (n ∷ ns) a h =
    elim (same_node n a) as (λ t. suc (length ns) ≤ cond t 0 (suc (lowest ns a)) → cond t 0 (suc (lowest (ns ++ a ∷ []) a)) ≡ suc (length ns))
    [ true ↦ (λ l. absurd (omega arith)) | false ↦ (λ l. ap suc (lowest_new ns a (omega arith))) ] h
