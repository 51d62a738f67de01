-- The fields of a written record, where they stand.
use Rattle.std.proofs.Common.{◌≡◌, ℕ, ◌+◌, ◌-◌, ◌*◌, ◌<◌, ◌≤◌, List, get_or, take, drop, sym, ap, ◌∙◌, arith}
use Rattle.std.proofs.lemmas.List.{take-take, drop-drop, drop-take}
use Rattle.std.specs.List.{between}
use Rattle.nodes.specs.Records.{children}
use Rattle.nodes.specs.Format.{read_node, value_of}
use Rattle.nodes.proofs.Numbers.{get_d_values}

-- the bytes of number i of those that begin at s
field_part : (w i s t : ℕ) (bs : List ℕ) → w * i + w ≤ t → take w (drop (w * i) (take t (drop s bs))) ≡ take w (drop (s + w * i) bs)
field_part w i s t bs le =
    let e : w * i + (t - w * i) ≡ t = omega arith in
    ap (λ q. take w (drop (w * i) (take q (drop s bs)))) (sym e)
    ∙ ap (take w) (drop-take (w * i) (t - w * i) (drop s bs))
    ∙ take-take w (t - w * i) (drop (w * i) (drop s bs)) (omega arith)
    ∙ ap (take w) (drop-drop (w * i) s bs)

module _ (bs : List ℕ) (i : ℕ) (child : i < children) where
  pub link_at : (k : ℕ) → k ≡ 2 → value_of (take k (drop (2 + 2 * i) bs)) ≡ get_or (read_node bs).links i 0
  unfolding read_node
  link_at k e =
      ap (λ j. value_of (take j (drop (2 + 2 * i) bs))) e
      ∙ sym (get_d_values 2 children i (between 2 18 bs) child ∙ ap value_of (field_part 2 i 2 16 bs (omega arith)))

  pub offset_at : (k : ℕ) → k ≡ 4 → value_of (take k (drop (18 + 4 * i) bs)) ≡ get_or (read_node bs).offsets i 0
  unfolding read_node
  offset_at k e =
      ap (λ j. value_of (take j (drop (18 + 4 * i) bs))) e
      ∙ sym (get_d_values 4 children i (between 18 50 bs) child ∙ ap value_of (field_part 4 i 18 32 bs (omega arith)))
