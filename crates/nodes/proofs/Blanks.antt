-- Memory with blanks: how writing changes it.
use Rattle.std.proofs.Common.{◌≡◌, ℕ, ◌+◌, ◌-◌, ◌<◌, ◌≤◌, List, ◌++◌, length, take, drop, set, replicate, sym, ap, ◌∙◌, arith}
use native.Mathlib.Nat.{sub_self}
use borrow.Rule.Slice.PartMut.{put_mid}
use Rattle.std.proofs.lemmas.List.{append_assoc, length-take, length-take-le, length-drop, length-append, length-replicate, take_at, drop_at, drop-append-le, drop-drop, drop-replicate, set-append_right, drop_more, replicate_more, replicate-append-replicate}
use Rattle.nodes.specs.Memory.{laid}

-- a part of memory from a to k is overwritten with y
abbrev pub over : {X : Type 0} → List X → ℕ → ℕ → X → List X
over m a k y = take a m ++ (replicate (k - a) y ++ drop k m)

-- Memory in order: a list of c places, blanks up to the capacity p, and what lies behind.
abbrev pub InOrder : {X : Type 0} → X → ℕ → ℕ → List X → Type 0
InOrder y c p m = m ≡ laid y (take c m) p (drop p m)

module _ {X : Type 0} (y : X) where
  -- memory that was laid out: its length, its front and what lies behind
  pub length_laid : (xs b : List X) (p : ℕ) → length xs ≤ p → length (laid y xs p b) ≡ p + length b
  length_laid xs b p le = simp (length-append, length-replicate) (omega arith)

  pub take_laid : (xs b : List X) (c p : ℕ) → length xs ≡ c → take c (laid y xs p b) ≡ xs
  take_laid xs b c p e = take_at xs (replicate (p - length xs) y ++ b) c e

  pub drop_laid : (xs b : List X) (p : ℕ) → length xs ≤ p → drop p (laid y xs p b) ≡ b
  drop_laid xs b p le =
      ap (drop p) (sym (append_assoc xs (replicate (p - length xs) y) b))
      ∙ drop_at (xs ++ replicate (p - length xs) y) b p (simp (length-append, length-replicate) (omega arith))

  -- what follows the list of memory in order
  order_tail : (m : List X) (c p : ℕ) → c ≤ length m → InOrder y c p m → drop c m ≡ replicate (p - c) y ++ drop p m
  order_tail m c p le h =
      let lc = length-take-le c m le in
      ap (drop c) h ∙ drop_at (take c m) (replicate (p - length (take c m)) y ++ drop p m) c lc
      ∙ ap (λ k. replicate (p - k) y ++ drop p m) lc

  -- all from the list's end to the capacity is blanked
  pub made : (m : List X) (c p : ℕ) → c ≤ length m → over m c p y ≡ laid y (take c m) p (drop p m)
  made m c p le = ap (λ k. take c m ++ (replicate (p - k) y ++ drop p m)) (sym (length-take-le c m le))

  -- memory in order is blanked from n to the list's old end
  pub cut_back : (m : List X) (n c p : ℕ) → n ≤ c → c ≤ p → c ≤ length m → InOrder y c p m → over m n c y ≡ laid y (take n m) p (drop p m)
  cut_back m n c p le le' in' h =
      let ln : length (take n m) ≡ n = length-take-le n m (omega arith) in
      let e : c - n + (p - c) ≡ p - length (take n m) = omega arith in
      ap (λ z. take n m ++ (replicate (c - n) y ++ z)) (order_tail m c p in' h)
      ∙ ap (λ z. take n m ++ z) (sym (append_assoc (replicate (c - n) y) (replicate (p - c) y) (drop p m)))
      ∙ ap (λ z. take n m ++ (z ++ drop p m)) (replicate-append-replicate (c - n) (p - c) y ∙ ap (λ k. replicate k y) e)

  -- a list is written at the end of the list of memory in order
  pub put_on : (m xs : List X) (c p : ℕ) → c + length xs ≤ p → c ≤ length m → InOrder y c p m → take c m ++ (xs ++ drop (c + length xs) m) ≡ laid y (take c m ++ xs) p (drop p m)
  put_on m xs c p le in' h =
      let lc : length (take c m) ≡ c = length-take-le c m in' in
      let lx : length xs ≤ length (replicate (p - c) y) = simp length-replicate (omega arith) in
      let e : p - c - length xs ≡ p - length (take c m ++ xs) = simp length-append (omega arith) in
      ap (λ z. take c m ++ (xs ++ z)) (sym (drop-drop (length xs) c m)
      ∙ ap (drop (length xs)) (order_tail m c p in' h)
      ∙ drop-append-le (length xs) (replicate (p - c) y) (drop p m) lx
      ∙ ap (λ z. z ++ drop p m) (drop-replicate (length xs) (p - c) y ∙ ap (λ k. replicate k y) e))
      ∙ sym (append_assoc (take c m) xs (replicate (p - length (take c m ++ xs)) y ++ drop p m))

-- a part of memory written over
pub put_part : {X : Type 0} (m xs : List X) (a b k w : ℕ) → a ≡ b → k ≡ w → put_mid a k m xs ≡ take b m ++ (xs ++ drop (b + w) m)
put_part m xs a b k w ae ke =
    ap (λ j. put_mid j k m xs) ae ∙ ap (λ l. take b m ++ (xs ++ l)) (drop-drop k b m ∙ ap (λ j. drop (b + j) m) ke)

-- a part of memory filled
pub filled : {X : Type 0} (m bs : List X) (z y : X) (a k from to : ℕ) → a ≡ from → k ≡ to - from → from ≤ to → to ≤ length m → z ≡ y → bs ≡ replicate (length (take k (drop a m))) z → put_mid a k m bs ≡ over m from to y
filled m bs z y a k from to ae ke le in' zy h =
    let l : length (take k (drop a m)) ≡ to - from = simp (length-take, length-drop) (omega arith) in
    let e : from + (to - from) ≡ to = omega arith in
    put_part m bs a from k (to - from) ae ke
    ∙ ap (λ l. take from m ++ (l ++ drop (from + (to - from)) m)) (h ∙ ap (λ j. replicate j z) l ∙ ap (replicate (to - from)) zy)
    ∙ ap (λ j. take from m ++ (replicate (to - from) y ++ drop j m)) e

-- one place more is overwritten
pub over_more : {X : Type 0} (m : List X) (a k : ℕ) (y : X) → a ≤ k → k < length m → set (over m a k y) k y ≡ over m a (k + 1) y
over_more m a k y le lt =
    let la : length (take a m) ≡ a = length-take-le a m (omega arith) in
    let lr : length (replicate (k - a) y) ≡ k - a = length-replicate (k - a) y in
    let e1 = set-append_right (take a m) (replicate (k - a) y ++ drop k m) a k y la le in
    let e2 = set-append_right (replicate (k - a) y) (drop k m) (k - a) (k - a) y lr (omega arith) in
    let e3 = drop_more m k y lt in
    let e4 : k + 1 - a ≡ k - a + 1 = omega arith in
    e1 ∙ ap (λ z. take a m ++ z) (e2 ∙ rw (sub_self (k - a), e3, e4, ← replicate_more (k - a) y, append_assoc))
