-- One more cell in the open rows.
use Rattle.std.proofs.Common.{◌≡◌, ℕ, ◌+◌, ◌%◌, ◌^◌, ◌<◌, ◌≤◌, List, [], ◌∷◌, ◌++◌, get_or, sym, refl, ap, ◌∙◌, subst, ⊎_elim, div-one, arith}
use lib.Count.{ones}
use Rattle.std.proofs.lemmas.Bool.{cases_eq}
use Rattle.cells.specs.SubCubes.{sub_cube}
use Rattle.nodes.specs.Records.{none}
use Rattle.nodes.specs.declared.node.Node.{Node}
use Rattle.dag.specs.Sets.{count, CellSet}
use Rattle.dag.specs.Sealed.{below}
use Rattle.dag.specs.Rows.{row_node, row_count, with_child, carry, staged, stage_row, stage_count}
use Rattle.dag.proofs.Carry.{AllUpTo}
use Rattle.dag.proofs.Depends.{below_push}
use Rattle.dag.proofs.Ones.{rising_single, row_ones}
use Rattle.dag.proofs.Next.{RowReady, CountReady, push_has, place_own, place_sum, place_others, place_sums}
use Rattle.voxels.specs.declared.row.OpenRow.{OpenRow}
use Rattle.voxels.specs.Stages.{row_at, AtStage}
use Rattle.voxels.specs.Places.{CellTaken}
use Rattle.voxels.proofs.Masks.{row_mask, row_link}
use Rattle.voxels.proofs.Few.{few_cells}

row_few : (cells : List ℕ) (k s n : ℕ) → ((a b : ℕ) → count cells a b ≤ 2 ^ 30) → row_count cells k s n ≤ 2 ^ 30
unfolding row_count
row_few cells k s n h = h _ _

-- before the first level closes, the list is that below the last cell
start_list : (L : ℕ) (cells : List ℕ) (m : ℕ) → staged L cells m 0 ≡ below L cells m
unfolding carry
start_list L cells m = refl

module _ (L : ℕ) (cells : List ℕ) (c : ℕ) (h : L ≤ 10) (one : 0 < L) (all : CellSet L (cells ++ c ∷ []))
    (last : AllUpTo (cells ++ c ∷ []) c) (single : count (cells ++ c ∷ []) c (c + 1) ≡ 1)
    (rows after : List OpenRow) (taken : CellTaken rows c after)
    (ready : (j : ℕ) → j < L → RowReady L cells c j (row_at rows j).node)
    (counted : (j : ℕ) → j < L → CountReady cells c j (row_at rows j).count) where
  few : (a b : ℕ) → count (cells ++ c ∷ []) a b ≤ 2 ^ 30
  few = few_cells L (cells ++ c ∷ []) all h

  here : sub_cube 0 c % 8 ≡ c % 8
  here = ap (λ s. s % 8) (div-one c)

  own : (row_at rows 0).node ≡ row_node (cells ++ c ∷ []) (below L (cells ++ c ∷ []) c) 0 (sub_cube 1 c) (c % 8)
  own = ready 0 one ∙ ap (row_node (cells ++ c ∷ []) (below L (cells ++ c ∷ []) c) 0 (sub_cube 1 c)) here

  room : (row_at rows 0).node.mask < 2 ^ (c % 8)
  room = subst (λ (a : Node). a.mask < 2 ^ (c % 8)) (sym own) (row_mask (cells ++ c ∷ []) (below L (cells ++ c ∷ []) c) 0 (sub_cube 1 c) (c % 8) (omega arith))

  free : get_or (row_at rows 0).node.links (c % 8) 0 ≡ none
  free = ap (λ (a : Node). get_or a.links (c % 8) 0) own ∙ row_link (cells ++ c ∷ []) (below L (cells ++ c ∷ []) c) 0 (sub_cube 1 c) (c % 8) (omega arith)

  before : ones ((row_at rows 0).node.mask % 2 ^ (c % 8)) ≡ (row_at rows 0).count
  before =
      ap (λ (a : Node). ones (a.mask % 2 ^ (c % 8))) own
      ∙ row_ones (cells ++ c ∷ []) (rising_single (cells ++ c ∷ []) all.rising) (sub_cube 1 c) (below L (cells ++ c ∷ []) c) (c % 8) (c % 8) (omega arith) (omega arith)
      ∙ ap (row_count (cells ++ c ∷ []) 0 (sub_cube 1 c)) (sym here)
      ∙ sym (counted 0 one)

  placed_node : (j : ℕ) → j < L → (row_at after j).node ≡ stage_row (cells ++ c ∷ []) (below L (cells ++ c ∷ []) c) c 0 j
  placed_node j l =
      ⊎_elim
      (λ e. subst (λ i. (row_at after i).node ≡ stage_row (cells ++ c ∷ []) (below L (cells ++ c ∷ []) c) c 0 i) (sym e)
      (taken.node room free ∙ ap (with_child (row_at rows 0).node (c % 8) none) before
      ∙ sym (place_own L cells c single (row_at rows 0).node (row_at rows 0).count (ready 0 one) (counted 0 one))))
      (λ e. ap (λ (a : OpenRow). a.node) (taken.others j e) ∙ sym (place_others L cells c single j (row_at rows j).node (omega arith) (ready j l)))
      (cases_eq j 0)

  placed_count : (j : ℕ) → j < L → (row_at after j).count ≡ stage_count (cells ++ c ∷ []) c 0 j
  placed_count j l =
      ⊎_elim
      (λ e. subst (λ i. (row_at after i).count ≡ stage_count (cells ++ c ∷ []) c 0 i) (sym e)
      (let s = place_sum L cells c single (row_at rows 0).count (counted 0 one) in
      let w = row_few (cells ++ c ∷ []) 0 (sub_cube 1 c) (sub_cube 0 c % 8) few in
      let v = counted 0 one in
      let t = taken.count in
      omega arith))
      (λ e. ap (λ (a : OpenRow). a.count) (taken.others j e) ∙ sym (place_sums L cells c single j (row_at rows j).count (omega arith) (counted j l)))
      (cases_eq j 0)

  -- the new cell is the last, and no level is closed
  pub cell_placed : (ns : List Node) → ns ≡ below L cells c → AtStage L (cells ++ c ∷ []) c 0 ns after
  cell_placed ns e =
      let f : ns ≡ below L (cells ++ c ∷ []) c = e ∙ sym (below_push L cells c c (omega arith)) in
      subst (λ xs. AtStage L (cells ++ c ∷ []) c 0 xs after) (sym f)
      (record {
        last = last;
        placed = push_has cells c;
        few = few;
        list = sym (start_list L (cells ++ c ∷ []) c);
        nodes = placed_node;
        counts = placed_count;
      })
