-- The rows from stage to stage, and from one cell to the next.
use Rattle.std.proofs.Common.{◌≡◌, ℕ, suc, ◌+◌, ◌*◌, ◌%◌, ◌<◌, ◌≤◌, true, cond, ltb, ◌≢◌, List, [], ◌∷◌, ◌++◌, length, sym, refl, ap, ◌∙◌, subst, ap₂, ⊎_elim, add-zero, arith}
use Rattle.std.proofs.lemmas.List.{length_push}
use Rattle.std.proofs.lemmas.Bool.{lt-ltb, le-ltb, eq-eqb, ne_eqb, cond-true, cond-false, cases_lt}
use Rattle.cells.specs.SubCubes.{sub_cube}
use Rattle.nodes.specs.declared.node.Node.{Node}
use Rattle.dag.specs.Sets.{count}
use Rattle.dag.specs.Records.{first, lowest, occupied, link_to, record_of}
use Rattle.dag.specs.Sealed.{Begins, below}
use Rattle.dag.specs.Rows.{row_node, row_count, empty_row, with_child, carry, staged, stage_row, stage_count}
use Rattle.dag.proofs.Growth.{begins_length}
use Rattle.dag.proofs.Spans.{first_le, span_from}
use Rattle.dag.proofs.Carry.{AllUpTo}
use Rattle.dag.proofs.Stages.{known_below, carry_begins, carry_later, stage_known, turn_number, turn_new}
use Rattle.dag.proofs.Rows.{row_stays, row_more, row_whole, count_more, count_whole, child_place_lem, child_small}

-- ---- the three sorts of row at a stage

module _ (cells : List ℕ) (ns : List Node) (m r : ℕ) where
  pub row_closed : (j : ℕ) → j < r → stage_row cells ns m r j ≡ empty_row j
  unfolding stage_row
  row_closed j h = cond-true (ltb j r) _ _ (lt-ltb j r h)

  pub row_own : stage_row cells ns m r r ≡ row_node cells ns r (sub_cube (suc r) m) (sub_cube r m % 8 + 1)
  unfolding stage_row
  row_own =
      cond-false (ltb r r) _ _ (le-ltb r r (omega arith))
      ∙ ap (λ t. row_node cells ns r (sub_cube (suc r) m) (sub_cube r m % 8 + cond t 1 0)) (eq-eqb r r refl)

  pub row_open : (j : ℕ) → r < j → stage_row cells ns m r j ≡ row_node cells ns j (sub_cube (suc j) m) (sub_cube j m % 8)
  unfolding stage_row
  row_open j h =
      cond-false (ltb j r) _ _ (le-ltb j r (omega arith))
      ∙ ap (λ t. row_node cells ns j (sub_cube (suc j) m) (sub_cube j m % 8 + cond t 1 0)) (ne_eqb j r (λ e. omega arith))
      ∙ ap (row_node cells ns j (sub_cube (suc j) m)) (add-zero (sub_cube j m % 8))

module _ (cells : List ℕ) (m r : ℕ) where
  pub count_closed : (j : ℕ) → j < r → stage_count cells m r j ≡ 0
  unfolding stage_count
  count_closed j h = cond-true (ltb j r) _ _ (lt-ltb j r h)

  pub count_own : stage_count cells m r r ≡ row_count cells r (sub_cube (suc r) m) (sub_cube r m % 8 + 1)
  unfolding stage_count
  count_own =
      cond-false (ltb r r) _ _ (le-ltb r r (omega arith))
      ∙ ap (λ t. row_count cells r (sub_cube (suc r) m) (sub_cube r m % 8 + cond t 1 0)) (eq-eqb r r refl)

  pub count_open : (j : ℕ) → r < j → stage_count cells m r j ≡ row_count cells j (sub_cube (suc j) m) (sub_cube j m % 8)
  unfolding stage_count
  count_open j h =
      cond-false (ltb j r) _ _ (le-ltb j r (omega arith))
      ∙ ap (λ t. row_count cells j (sub_cube (suc j) m) (sub_cube j m % 8 + cond t 1 0)) (ne_eqb j r (λ e. omega arith))
      ∙ ap (row_count cells j (sub_cube (suc j) m)) (add-zero (sub_cube j m % 8))

-- ---- from stage r to stage r + 1

-- a row of children that end below m does not change as the list grows
pub open_stays : (L : ℕ) (cells : List ℕ) (m : ℕ) (ms : List Node) → Begins (below L cells m) ms → (j : ℕ) → j ≤ L
    → row_node cells ms j (sub_cube (suc j) m) (sub_cube j m % 8) ≡ row_node cells (below L cells m) j (sub_cube (suc j) m) (sub_cube j m % 8)
open_stays L cells m ms grows j h =
    row_stays cells (below L cells m) ms grows j (sub_cube (suc j) m) (sub_cube j m % 8)
    (λ i l b o.
    let p = child_place_lem j m in
    let a = first_le j (8 * sub_cube (suc j) m + i + 1) (sub_cube j m) (omega arith) in
    let c = span_from j m in
    known_below L cells m j (8 * sub_cube (suc j) m + i) h (omega arith) o)

module _ (L : ℕ) (cells : List ℕ) (m : ℕ) (last : AllUpTo cells m) where
  -- the row right above the closed levels is the record to write, and its count is that of the sub-cube
  pub stage_record : (ns : List Node) (r : ℕ) → stage_row cells ns m r r ≡ record_of cells ns r (sub_cube (suc r) m)
  stage_record ns r = row_own cells ns m r ∙ row_whole cells m last ns r

  pub stage_total : (r : ℕ) → stage_count cells m r r ≡ count cells (first (suc r) (sub_cube (suc r) m)) (first (suc r) (sub_cube (suc r) m + 1))
  stage_total r = count_own cells m r ∙ count_whole cells m last r

  pub stage_number : (r : ℕ) → suc r ≤ L → occupied cells (suc r) (sub_cube (suc r) m) ≡ true
      → link_to cells (staged L cells m (suc r)) (suc r) (sub_cube (suc r) m) ≡ lowest (staged L cells m r) (record_of cells (staged L cells m r) r (sub_cube (suc r) m))
  unfolding carry
  stage_number r h o = turn_number cells r (sub_cube (suc r) m) (carry cells m r (below L cells m)) (stage_known L cells m last r (omega arith)) o

  -- the number of the record, which the search gave, goes into the parent's row
  pub stage_parent : (r : ℕ) → suc r ≤ L → occupied cells (suc r) (sub_cube (suc r) m) ≡ true
      → stage_row cells (staged L cells m (suc r)) m (suc r) (suc r)
      ≡ with_child (stage_row cells (staged L cells m r) m r (suc r)) (sub_cube (suc r) m % 8) (lowest (staged L cells m r) (record_of cells (staged L cells m r) r (sub_cube (suc r) m))) (stage_count cells m r (suc r))
  stage_parent r h o =
      let p = child_place_lem (suc r) m in
      row_own cells (staged L cells m (suc r)) m (suc r)
      ∙ row_more cells (staged L cells m (suc r)) (suc r) (sub_cube (suc (suc r)) m) (sub_cube (suc r) m % 8) (child_small (suc r) m) (subst (λ s. occupied cells (suc r) s ≡ true) (sym p) o)
      ∙ ap₂ (λ row link. with_child row (sub_cube (suc r) m % 8) link (row_count cells (suc r) (sub_cube (suc (suc r)) m) (sub_cube (suc r) m % 8)))
      (open_stays L cells m (staged L cells m (suc r)) (carry_begins cells m (suc r) (below L cells m)) (suc r) h
      ∙ sym (open_stays L cells m (staged L cells m r) (carry_begins cells m r (below L cells m)) (suc r) h)
      ∙ sym (row_open cells (staged L cells m r) m r (suc r) (omega arith)))
      (ap (link_to cells (staged L cells m (suc r)) (suc r)) p ∙ stage_number r h o)
      ∙ ap (with_child (stage_row cells (staged L cells m r) m r (suc r)) (sub_cube (suc r) m % 8) (lowest (staged L cells m r) (record_of cells (staged L cells m r) r (sub_cube (suc r) m))))
      (sym (count_open cells m r (suc r) (omega arith)))

  pub stage_sum : (r : ℕ) → stage_count cells m (suc r) (suc r) ≡ stage_count cells m r (suc r) + stage_count cells m r r
  stage_sum r =
      let p = child_place_lem (suc r) m in
      count_own cells m (suc r)
      ∙ count_more cells (suc r) (sub_cube (suc (suc r)) m) (sub_cube (suc r) m % 8)
      ∙ ap₂ (λ a b. a + b) (sym (count_open cells m r (suc r) (omega arith)))
      (ap (λ s. count cells (first (suc r) s) (first (suc r) (s + 1))) p ∙ sym (stage_total r))

  -- the row of the closed level is empty again, and the others stay
  pub stage_others : (r j : ℕ) → j ≤ L → j ≢ r → j ≢ suc r → stage_row cells (staged L cells m (suc r)) m (suc r) j ≡ stage_row cells (staged L cells m r) m r j
  stage_others r j h a b =
      ⊎_elim
      (λ l. row_closed cells (staged L cells m (suc r)) m (suc r) j (omega arith) ∙ sym (row_closed cells (staged L cells m r) m r j l))
      (λ l. row_open cells (staged L cells m (suc r)) m (suc r) j (omega arith)
      ∙ open_stays L cells m (staged L cells m (suc r)) (carry_begins cells m (suc r) (below L cells m)) j h
      ∙ sym (open_stays L cells m (staged L cells m r) (carry_begins cells m r (below L cells m)) j h)
      ∙ sym (row_open cells (staged L cells m r) m r j (omega arith)))
      (cases_lt j r)

  pub stage_sums : (r j : ℕ) → j ≢ r → j ≢ suc r → stage_count cells m (suc r) j ≡ stage_count cells m r j
  stage_sums r j a b =
      ⊎_elim
      (λ l. count_closed cells m (suc r) j (omega arith) ∙ sym (count_closed cells m r j l))
      (λ l. count_open cells m (suc r) j (omega arith) ∙ sym (count_open cells m r j (omega arith)))
      (cases_lt j r)

  -- where a new record finds the list full, the list of any later stage is longer than that
  pub stage_full : (r p : ℕ) → r < p → occupied cells (suc r) (sub_cube (suc r) m) ≡ true
      → length (staged L cells m r) ≤ lowest (staged L cells m r) (record_of cells (staged L cells m r) r (sub_cube (suc r) m)) → length (staged L cells m r) < length (staged L cells m p)
  stage_full r p h o n =
      let a = begins_length (staged L cells m (suc r)) (staged L cells m p) (carry_later cells m (suc r) p (below L cells m) (omega arith)) in
      let b : length (staged L cells m (suc r)) ≡ length (staged L cells m r) + 1 = ap length (pushed r o n) ∙ length_push (staged L cells m r) (record_of cells (staged L cells m r) r (sub_cube (suc r) m)) in
      omega arith
    where
      pushed : (r : ℕ) → occupied cells (suc r) (sub_cube (suc r) m) ≡ true → length (staged L cells m r) ≤ lowest (staged L cells m r) (record_of cells (staged L cells m r) r (sub_cube (suc r) m))
          → staged L cells m (suc r) ≡ staged L cells m r ++ record_of cells (staged L cells m r) r (sub_cube (suc r) m) ∷ []
      pushed r o n = unfold carry in turn_new cells r (sub_cube (suc r) m) (staged L cells m r) o n
