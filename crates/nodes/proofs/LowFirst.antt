-- Numbers of several bytes, low byte first: the laws, once for every width.
use Rattle.std.proofs.Common.{◌≡◌, ℕ, zero, suc, ◌+◌, ◌-◌, ◌*◌, ◌/◌, ◌%◌, ◌^◌, ◌<◌, ◌≤◌, List, [], ◌∷◌, ◌++◌, length, get_or, take, drop, set, refl, ap, ◌∙◌, mul_comm, arith}
use native.Mathlib.Nat.{pow-succ', pow-le-pow_right}
use Rattle.std.proofs.lemmas.List.{append_assoc, drop_more, take_more_set}
use Rattle.std.proofs.lemmas.Nat.{div_below, div-add-mod'}
use Rattle.std.specs.Int.{w16, w32, from_le_bytes}
use Rattle.nodes.specs.Format.{Bytes, bytes_of, value_of}

pub length_bytes_of : (w n : ℕ) → length (bytes_of w n) ≡ w
unfolding bytes_of
length_bytes_of zero n = refl
length_bytes_of (suc w) n = ap suc (length_bytes_of w (n / 256))

-- a number that fits its width is read as it was written
pub value_bytes : (w n : ℕ) → n < 256 ^ w → value_of (bytes_of w n) ≡ n
unfolding bytes_of value_of
value_bytes zero n h = omega arith
value_bytes (suc w) n h =
    let q : n / 256 < 256 ^ w = div_below n 256 (256 ^ w) (omega arith) (rw (pow-succ' 256 w, mul_comm 256 (256 ^ w)) at h) in
    ap (λ v. n % 256 + 256 * v) (value_bytes w (n / 256) q) ∙ omega (arith, div-add-mod' n 256)

-- bytes are written as they were read
pub bytes_value : (bs : List ℕ) → Bytes bs → bytes_of (length bs) (value_of bs) ≡ bs
unfolding bytes_of value_of
bytes_value [] h = refl
bytes_value (b ∷ bs) h =
    let m : (b + 256 * value_of bs) % 256 ≡ b = omega (arith, h.0) in
    let d : (b + 256 * value_of bs) / 256 ≡ value_of bs = omega (arith, h.0) in
    rw (m, d) (ap (λ l. b ∷ l) (bytes_value bs h.1))

-- what so many bytes write
pub value_below : (bs : List ℕ) → Bytes bs → value_of bs < 256 ^ length bs
unfolding value_of
value_below [] h = omega arith
value_below (b ∷ bs) h = rw (pow-succ' 256 (length bs)) (omega (arith, h.0, value_below bs h.1))

-- at most so many bytes write a number below that power
pub value_under : (bs : List ℕ) (w : ℕ) → length bs ≤ w → Bytes bs → value_of bs < 256 ^ w
value_under bs w le h =
    let z : 0 < 256 = omega arith in
    let p : 256 ^ length bs ≤ 256 ^ w = pow-le-pow_right z le in
    omega (arith, value_below bs h)

-- what two bytes write, and four
pub value_two : (bs : List ℕ) → length bs ≡ 2 → from_le_bytes w16 (get_or bs 0 0 ∷ get_or bs 1 0 ∷ []) ≡ value_of bs
unfolding value_of
value_two [] l = absurd (omega arith)
value_two (a ∷ []) l = absurd (omega arith)
value_two (a ∷ b ∷ []) l = omega arith
value_two (a ∷ b ∷ c ∷ bs) l = absurd (omega arith)

pub value_four : (bs : List ℕ) → length bs ≡ 4 → from_le_bytes w32 (get_or bs 0 0 ∷ get_or bs 1 0 ∷ get_or bs 2 0 ∷ get_or bs 3 0 ∷ []) ≡ value_of bs
unfolding value_of
value_four [] l = absurd (omega arith)
value_four (a ∷ []) l = absurd (omega arith)
value_four (a ∷ b ∷ []) l = absurd (omega arith)
value_four (a ∷ b ∷ c ∷ []) l = absurd (omega arith)
value_four (a ∷ b ∷ c ∷ d ∷ []) l = omega arith
value_four (a ∷ b ∷ c ∷ d ∷ e ∷ bs) l = absurd (omega arith)

-- writing from the first byte up: one more is written
pub bytes_more : (bs : List ℕ) (w k rest : ℕ) (all : List ℕ) → k < w → w ≡ length bs → take k bs ++ bytes_of (w - k) rest ≡ all → take (k + 1) (set bs k (rest % 256)) ++ bytes_of (w - (k + 1)) (rest / 256) ≡ all
unfolding bytes_of
bytes_more bs w k rest all lt e h =
    let s : w - k ≡ suc (w - (k + 1)) = omega arith in
    rw (take_more_set bs k (rest % 256) (omega arith), append_assoc (take k bs) (rest % 256 ∷ []) (bytes_of (w - (k + 1)) (rest / 256))) (rw s at h)

-- reading from the last byte down: one more is read
pub value_more : (bs : List ℕ) (k n : ℕ) → 0 < k → k ≤ length bs → get_or bs (k - 1) 0 < 256 → (n ≡ value_of (drop k bs)) × Bytes (drop k bs) → (n * 256 + get_or bs (k - 1) 0 ≡ value_of (drop (k - 1) bs)) × Bytes (drop (k - 1) bs)
unfolding value_of
value_more bs k n pos le b h =
    let e : k - 1 + 1 ≡ k = omega arith in
    let d : drop (k - 1) bs ≡ get_or bs (k - 1) 0 ∷ drop k bs = drop_more bs (k - 1) 0 (omega arith) ∙ ap (λ j. get_or bs (k - 1) 0 ∷ drop j bs) e in
    rw d (omega (arith, h.0), (b, h.1))
