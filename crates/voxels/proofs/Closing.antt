-- From stage to stage.
use Rattle.std.proofs.Common.{◌≡◌, ℕ, zero, suc, ◌+◌, ◌-◌, ◌%◌, ◌^◌, ◌<◌, ◌≤◌, min, ◌≢◌, List, length, set, sym, refl, ap, ◌∙◌, subst, ap₂, ⊎_elim, add-one, arith, length-set}
use Rattle.std.proofs.lemmas.List.{get_or-set_same, get_or-set_other}
use Rattle.std.proofs.lemmas.Bool.{cases_eq}
use Rattle.cells.specs.SubCubes.{sub_cube}
use Rattle.nodes.specs.declared.node.Node.{Node}
use Rattle.dag.specs.Records.{first, lowest, record_of}
use Rattle.dag.specs.Sealed.{written, below}
use Rattle.dag.specs.Rows.{empty_row, with_child, carry, staged, stage_row, stage_count}
use Rattle.dag.proofs.Carry.{carrying_to}
use Rattle.dag.proofs.Stages.{own_occupied, turn_occupied}
use Rattle.dag.proofs.Rows.{child_small}
use Rattle.dag.proofs.Steps.{row_closed, row_open, count_closed, stage_record, stage_total, stage_parent, stage_sum, stage_others, stage_sums, stage_full}
use Rattle.voxels.specs.declared.row.OpenRow.{OpenRow}
use Rattle.voxels.specs.Stages.{no_row, row_at, AtStage, Closed}
use Rattle.voxels.proofs.Masks.{row_mask}

-- ---- one level

-- the rows that one step of the closing leaves: that of the closed level is empty, the one above has one more child
pub record Moves (L m r n : ℕ) (rows after : List OpenRow) : Type 0 where
  pub node : (row_at after r).node ≡ empty_row r
  pub sum : (row_at after r).count ≡ 0
  pub parent : suc r < L → (row_at rows (suc r)).node.mask < 2 ^ (sub_cube (suc r) m % 8)
      → (row_at after (suc r)).node ≡ with_child (row_at rows (suc r)).node (sub_cube (suc r) m % 8) n (row_at rows (suc r)).count
  pub sums : suc r < L → (row_at after (suc r)).count ≡ min ((row_at rows (suc r)).count + (row_at rows r).count) (2 ^ 32 - 1)
  pub others : (j : ℕ) → j < L → j ≢ r → j ≢ suc r → row_at after j ≡ row_at rows j

module _ (L : ℕ) (cells : List ℕ) (m r : ℕ) (rows : List OpenRow) (at : AtStage L cells m r (staged L cells m r) rows) (h : r < L) where
  -- the row is the record to write
  pub to_write : (row_at rows r).node ≡ record_of cells (staged L cells m r) r (sub_cube (suc r) m)
  to_write = at.nodes r h ∙ stage_record L cells m at.last (staged L cells m r) r

  next_list : (ms : List Node) → ms ≡ written (staged L cells m r) (row_at rows r).node → ms ≡ staged L cells m (suc r)
  unfolding carry
  next_list ms e =
      e ∙ ap (written (staged L cells m r)) to_write
      ∙ sym (turn_occupied cells r (sub_cube (suc r) m) (staged L cells m r) (own_occupied cells m (suc r) at.placed))

  row_fits : suc r < L → (row_at rows (suc r)).node.mask < 2 ^ (sub_cube (suc r) m % 8)
  row_fits l =
      let c = child_small (suc r) m in
      let e : (row_at rows (suc r)).node ≡ _ = at.nodes (suc r) l ∙ row_open cells (staged L cells m r) m r (suc r) (omega arith) in
      subst (λ (a : Node). a.mask < 2 ^ (sub_cube (suc r) m % 8)) (sym e)
      (row_mask cells (staged L cells m r) (suc r) (sub_cube (suc (suc r)) m) (sub_cube (suc r) m % 8) (omega arith))

  module _ (after : List OpenRow) (n : ℕ) (number : n ≡ lowest (staged L cells m r) (row_at rows r).node) (moves : Moves L m r n rows after) where
    next_nodes : (j : ℕ) → j < L → (row_at after j).node ≡ stage_row cells (staged L cells m (suc r)) m (suc r) j
    next_nodes j l =
        ⊎_elim
        (λ e. subst (λ i. (row_at after i).node ≡ stage_row cells (staged L cells m (suc r)) m (suc r) i) (sym e)
        (moves.node ∙ sym (row_closed cells (staged L cells m (suc r)) m (suc r) r (omega arith))))
        (λ e. ⊎_elim
        (λ f. let b : suc r < L = omega arith in
        subst (λ i. (row_at after i).node ≡ stage_row cells (staged L cells m (suc r)) m (suc r) i) (sym f)
        (moves.parent b (row_fits b)
        ∙ ap (λ k. with_child (row_at rows (suc r)).node (sub_cube (suc r) m % 8) k (row_at rows (suc r)).count) (number ∙ ap (lowest (staged L cells m r)) to_write)
        ∙ ap₂ (λ a k. with_child a (sub_cube (suc r) m % 8) (lowest (staged L cells m r) (record_of cells (staged L cells m r) r (sub_cube (suc r) m))) k) (at.nodes (suc r) b) (at.counts (suc r) b)
        ∙ sym (stage_parent L cells m at.last r (omega arith) (own_occupied cells m (suc r) at.placed))))
        (λ f. ap (λ (a : OpenRow). a.node) (moves.others j l e f) ∙ at.nodes j l ∙ sym (stage_others L cells m at.last r j (omega arith) e f))
        (cases_eq j (suc r)))
        (cases_eq j r)

    next_counts : (j : ℕ) → j < L → (row_at after j).count ≡ stage_count cells m (suc r) j
    next_counts j l =
        ⊎_elim
        (λ e. subst (λ i. (row_at after i).count ≡ stage_count cells m (suc r) i) (sym e)
        (moves.sum ∙ sym (count_closed cells m (suc r) r (omega arith))))
        (λ e. ⊎_elim
        (λ f. let b : suc r < L = omega arith in
        subst (λ i. (row_at after i).count ≡ stage_count cells m (suc r) i) (sym f)
        (let s = stage_sum L cells m at.last r in
        let t = stage_total L cells m at.last (suc r) in
        let u = at.few (first (suc (suc r)) (sub_cube (suc (suc r)) m)) (first (suc (suc r)) (sub_cube (suc (suc r)) m + 1)) in
        let v = at.counts (suc r) b in
        let w = at.counts r h in
        let x = moves.sums b in
        omega arith))
        (λ f. ap (λ (a : OpenRow). a.count) (moves.others j l e f) ∙ at.counts j l ∙ sym (stage_sums L cells m at.last r j e f))
        (cases_eq j (suc r)))
        (cases_eq j r)

    stage_closed : AtStage L cells m (suc r) (staged L cells m (suc r)) after
    stage_closed = record { last = at.last; placed = at.placed; few = at.few; list = refl; nodes = next_nodes; counts = next_counts }

-- with the lists as the code has them
pub stage_next : (L : ℕ) (cells : List ℕ) (m r n : ℕ) (ns ms : List Node) (rows after : List OpenRow)
    → r < L → n ≡ lowest ns (row_at rows r).node → ms ≡ written ns (row_at rows r).node → Moves L m r n rows after
    → AtStage L cells m r ns rows → AtStage L cells m (r + 1) ms after
stage_next L cells m r n ns ms rows after h number list moves at =
    let here : AtStage L cells m r (staged L cells m r) rows = subst (λ xs. AtStage L cells m r xs rows) at.list at in
    let e = at.list in
    let num : n ≡ lowest (staged L cells m r) (row_at rows r).node = number ∙ ap (λ xs. lowest xs (row_at rows r).node) e in
    let lst : ms ≡ staged L cells m (suc r) = next_list L cells m r rows here h ms (list ∙ ap (λ xs. written xs (row_at rows r).node) e) in
    subst (λ k. AtStage L cells m k ms after) (sym (add-one r))
    (subst (λ xs. AtStage L cells m (suc r) xs after) (sym lst) (stage_closed L cells m r rows here h after n num moves))

-- a refused record was new
pub stage_refused : (L : ℕ) (cells : List ℕ) (m r room : ℕ) (ns : List Node) (rows : List OpenRow)
    → r < L → room ≤ length ns → length ns ≤ lowest ns (row_at rows r).node → AtStage L cells m r ns rows
    → (room ≤ length (staged L cells m r)) × (length (staged L cells m r) ≤ lowest (staged L cells m r) (record_of cells (staged L cells m r) r (sub_cube (suc r) m)))
stage_refused L cells m r room ns rows h le new at =
    let here : AtStage L cells m r (staged L cells m r) rows = subst (λ xs. AtStage L cells m r xs rows) at.list at in
    let e = at.list in (
      subst (λ (xs : List Node). room ≤ length xs) e le,
      subst (λ a. length (staged L cells m r) ≤ lowest (staged L cells m r) a) (to_write L cells m r rows here h)
          (subst (λ (xs : List Node). length xs ≤ lowest xs (row_at rows r).node) e new),
    )

-- ---- the rows as the code writes them

module _ (L m r n : ℕ) (rows : List OpenRow) (e : OpenRow) (h : r < length rows) (node : e.node ≡ empty_row r) (sum : e.count ≡ 0) where
  pub top_moves : L ≤ r + 1 → Moves L m r n rows (set rows r e)
  top_moves l =
      let s = get_or-set_same rows r e no_row h in
      record {
        node = ap (λ (a : OpenRow). a.node) s ∙ node;
        sum = ap (λ (a : OpenRow). a.count) s ∙ sum;
        parent = λ b f. absurd (omega arith);
        sums = λ b. absurd (omega arith);
        others = λ j b f q. get_or-set_other rows r j e no_row f;
      }

  pub parent_moves : (p : OpenRow) (child : ℕ) → r + 1 < length rows → child ≡ sub_cube (r + 1) m % 8
      → ((row_at (set rows r e) (r + 1)).node.mask < 2 ^ child → p.node ≡ with_child (row_at (set rows r e) (r + 1)).node child n (row_at (set rows r e) (r + 1)).count)
      → p.count ≡ min ((row_at (set rows r e) (r + 1)).count + (row_at rows r).count) (2 ^ 32 - 1)
      → Moves L m r n rows (set (set rows r e) (r + 1) p)
  parent_moves p child l c f g =
      let s : row_at (set (set rows r e) (r + 1) p) r ≡ e = get_or-set_other (set rows r e) (r + 1) r p no_row (λ z. omega arith) ∙ get_or-set_same rows r e no_row h in
      let k = length-set rows r e in
      let q : row_at (set (set rows r e) (r + 1) p) (suc r) ≡ p =
      subst (λ i. row_at (set (set rows r e) (r + 1) p) i ≡ p) (add-one r) (get_or-set_same (set rows r e) (r + 1) p no_row (omega arith)) in
      let o : row_at (set rows r e) (r + 1) ≡ row_at rows (suc r) =
      get_or-set_other rows r (r + 1) e no_row (λ z. omega arith) ∙ ap (row_at rows) (add-one r) in
      let d : child ≡ sub_cube (suc r) m % 8 = c ∙ ap (λ i. sub_cube i m % 8) (add-one r) in
      record {
        node = ap (λ (a : OpenRow). a.node) s ∙ node;
        sum = ap (λ (a : OpenRow). a.count) s ∙ sum;
        parent = λ b t. ap (λ (a : OpenRow). a.node) q
            ∙ f (subst (λ (a : OpenRow). a.node.mask < 2 ^ child) (sym o) (subst (λ i. (row_at rows (suc r)).node.mask < 2 ^ i) (sym d) t))
            ∙ ap₂ (λ (a : OpenRow) i. with_child a.node i n a.count) o d;
        sums = λ b. ap (λ (a : OpenRow). a.count) q ∙ g ∙ ap (λ (a : OpenRow). min (a.count + (row_at rows r).count) (2 ^ 32 - 1)) o;
        others = λ j b t z. get_or-set_other (set rows r e) (r + 1) j p no_row (λ y. z (y ∙ add-one r)) ∙ get_or-set_other rows r j e no_row t;
      }

-- ---- all levels at which two codes part

-- the highest level at which they part
parts_up_to : (m c r d : ℕ) → sub_cube r m ≢ sub_cube r c
    → (p : ℕ) × (r ≤ p) × (p ≤ r + d) × (sub_cube p m ≢ sub_cube p c) × (p < r + d → sub_cube (suc p) m ≡ sub_cube (suc p) c)
parts_up_to m c r zero h = (r, omega arith, omega arith, h, λ l. absurd (omega arith))
parts_up_to m c r (suc d) h =
    ⊎_elim
    (λ e. (r, omega arith, omega arith, h, λ l. e))
    (λ e. let i = parts_up_to m c (suc r) d e in
    (i.0, omega (arith, i.1), omega (arith, i.2), i.3, λ l. i.4 (omega arith)))
    (cases_eq (sub_cube (suc r) m) (sub_cube (suc r) c))

-- where a new record finds no room, there is none for the list below the code
pub below_full : (L : ℕ) (cells : List ℕ) (m c r room : ℕ) (ns : List Node) (rows : List OpenRow) → AtStage L cells m r ns rows
    → r < L → m < c → sub_cube (r + 1) m ≢ sub_cube (r + 1) c
    → room ≤ length (staged L cells m r) → length (staged L cells m r) ≤ lowest (staged L cells m r) (record_of cells (staged L cells m r) r (sub_cube (suc r) m))
    → room < length (below L cells c)
below_full L cells m c r room ns rows at h l parted le new =
    let e : suc r + (L - suc r) ≡ L = omega arith in
    let i = parts_up_to m c (suc r) (L - suc r) (subst (λ k. sub_cube k m ≢ sub_cube k c) (add-one r) parted) in
    let up : i.0 ≤ L = omega (arith, i.2) in
    let b = carrying_to L cells m c i.0 at.last l up i.3 (λ t. i.4 (omega arith)) in
    let f = stage_full L cells m at.last r i.0 (omega (arith, i.1)) (own_occupied cells m (suc r) at.placed) new in
    let w : length (below L cells c) ≡ length (staged L cells m i.0) = ap length b in
    omega arith

-- where nothing more parts, the list is the one below the code
pub closed_at : (L : ℕ) (cells : List ℕ) (m c p : ℕ) (ns : List Node) (rows : List OpenRow) → m < c → p ≤ L
    → sub_cube p m ≢ sub_cube p c → (p < L → sub_cube (p + 1) m ≡ sub_cube (p + 1) c) → AtStage L cells m p ns rows → Closed L cells m c ns rows
closed_at L cells m c p ns rows h l parted together at =
    let t : p < L → sub_cube (suc p) m ≡ sub_cube (suc p) c = λ b. subst (λ k. sub_cube k m ≡ sub_cube k c) (add-one p) (together b) in
    record {
      list = at.list ∙ sym (carrying_to L cells m c p at.last h l parted t);
      level = p;
      within = l;
      parted = parted;
      together = t;
      stage = at;
    }
