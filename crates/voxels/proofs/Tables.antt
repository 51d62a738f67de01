-- Tables of rows.
use Rattle.std.proofs.Common.{◌≡◌, ℕ, ◌+◌, ◌<◌, List, length, set, sym, subst, ⊎_elim, arith}
use Rattle.std.proofs.lemmas.List.{get_or-set_same, get_or-set_other}
use Rattle.std.proofs.lemmas.Bool.{cases_lt}
use Rattle.voxels.specs.declared.row.OpenRow.{OpenRow}
use Rattle.voxels.specs.Stages.{row_at}

-- what holds of each row below j, and of the one that is put in its place
pub rows_more : (P : ℕ → OpenRow → Type 0) (rows : List OpenRow) (j : ℕ) (row : OpenRow) → j < length rows
    → ((k : ℕ) → k < j → P k (row_at rows k)) → P j row → (k : ℕ) → k < j + 1 → P k (row_at (set rows j row) k)
rows_more P rows j row h all this k l =
    ⊎_elim
    (λ b. subst (P k) (sym (get_or-set_other rows j k row _ (λ e. omega arith))) (all k b))
    (λ b. let e : j ≡ k = omega arith in
    subst (λ i. P i (row_at (set rows j row) i)) e (subst (P j) (sym (get_or-set_same rows j row _ h)) this))
    (cases_lt k j)
