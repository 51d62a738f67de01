-- The search for a record, and its addition where there is none.
use Rattle.std.proofs.Common.{◌≡◌, ℕ, ◌<◌, ◌≤◌, true, false, cond, List, [], ◌∷◌, ◌++◌, length, get_or, Some, None, sym, refl, ap, ◌∙◌, subst, ⊎_elim, arith, take-take}
use Rattle.std.specs.List.{slice_get}
use Rattle.std.proofs.lemmas.Option.{slice_get-get_or}
use Rattle.std.proofs.lemmas.Bool.{leb-true, lt-ltb, le-ltb, cond-true, cond-false, cases_lt}
use Rattle.cells.specs.Refusals.{Answer, gives, refuses, refuse_if}
use Rattle.cells.proofs.Places.{nth_inside}
use Rattle.nodes.specs.declared.node.Node.{Node}
use Rattle.nodes.specs.Records.{blank}
use Rattle.nodes.specs.Finding.{LowestFrom}
use Rattle.nodes.specs.Pools.{Memory, records, bytes, front, full, added}
use Rattle.dag.specs.Records.{lowest}
use Rattle.dag.specs.Sealed.{there, written}
use Rattle.dag.proofs.Lowest.{lowest_at, lowest_there, lowest_most}

module _ (ns : List Node) (a : Node) where
  at_lowest : lowest ns a < length ns → slice_get ns (lowest ns a) ≡ Some a
  at_lowest h = slice_get-get_or ns (lowest ns a) blank h ∙ ap Some (lowest_at ns a h)

  pub found_inside : (n : ℕ) → LowestFrom 0 ns a (Some n) → n < length ns
  found_inside n h = nth_inside ns n a h.1

  pub found_lowest : (n : ℕ) → LowestFrom 0 ns a (Some n) → n ≡ lowest ns a
  found_lowest n h =
      let l = found_inside n h in
      let s : Some (get_or ns n blank) ≡ Some a = sym (slice_get-get_or ns n blank l) ∙ h.1 in
      let e : get_or ns n blank ≡ a = cc in
      let t : lowest ns a ≤ n = subst (λ x. lowest ns x ≤ n) e (lowest_there ns n l) in
      ⊎_elim (λ b. absurd (h.2 (lowest ns a) (omega arith) b (at_lowest (omega arith)))) (λ b. omega arith) (cases_lt (lowest ns a) n)

  pub found_written : (n : ℕ) → LowestFrom 0 ns a (Some n) → ns ≡ written ns a
  found_written n h =
      let l = found_inside n h in
      let e = found_lowest n h in
      sym (cond-true (there ns a) ns (ns ++ a ∷ []) (lt-ltb (lowest ns a) (length ns) (omega arith)))

  pub absent_new : LowestFrom 0 ns a None → length ns ≤ lowest ns a
  absent_new h = ⊎_elim (λ b. absurd (h (lowest ns a) (omega arith) (at_lowest b))) (λ b. b) (cases_lt (lowest ns a) (length ns))

  module _ (new : length ns ≤ lowest ns a) (room n : ℕ) (ms : List Node) (list : ms ≡ added ns room a) where
    pub added_numbered : ◌≡◌ {A = Answer ℕ} (gives n) (refuse_if (full ns room) 6 (gives (length ns))) → (n ≡ lowest ns a) × (ms ≡ written ns a)
    added_numbered e =
        let top = lowest_most ns a in
        elim (full ns room) as (λ t. ◌≡◌ {A = Answer ℕ} (gives n) (refuse_if t 6 (gives (length ns))) → ms ≡ cond t ns (ns ++ a ∷ []) → (n ≡ lowest ns a) × (ms ≡ written ns a)) [
          | true ↦ (λ p q. let z : ◌≡◌ {A = ℕ} 0 1 = cc in absurd (omega arith))
          | false ↦ (λ p q. let z : n ≡ length ns = cc in
              (omega arith, q ∙ sym (cond-false (there ns a) ns (ns ++ a ∷ []) (le-ltb (lowest ns a) (length ns) new))))
        ] e list

    pub refused_full : ◌≡◌ {A = Answer ℕ} (refuses n) (refuse_if (full ns room) 6 (gives (length ns))) → (n ≡ 6) × (ms ≡ ns) × (room ≤ length ns) × (length ns ≤ lowest ns a)
    refused_full e =
        elim (full ns room) as (λ t. full ns room ≡ t → ◌≡◌ {A = Answer ℕ} (refuses n) (refuse_if t 6 (gives (length ns))) → ms ≡ cond t ns (ns ++ a ∷ []) → (n ≡ 6) × (ms ≡ ns) × (room ≤ length ns) × (length ns ≤ lowest ns a)) [
          | true ↦ (λ f p q. let z : n ≡ 6 = cc in (z, q, leb-true room (length ns) f, new))
          | false ↦ (λ f p q. let z : ◌≡◌ {A = ℕ} 0 1 = cc in absurd (omega arith))
        ] refl e list

-- the memory of fewer records
front_front : (n k : ℕ) (m : Memory) → n ≤ k → front n (front k m) ≡ front n m
front_front n k (records rows) h = ap records (take-take n k rows h)
front_front n k (bytes all) h = ap bytes (take-take _ _ all (omega arith))

-- what stayed of a longer list's memory stayed of a shorter one's
pub front_stays : (n k : ℕ) (before after : Memory) → n ≤ k → front k after ≡ front k before → front n after ≡ front n before
front_stays n k before after h e = sym (front_front n k after h) ∙ ap (front n) e ∙ front_front n k before h
