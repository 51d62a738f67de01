-- Numbers of one width that stand one behind another.
use Rattle.std.proofs.Common.{◌≡◌, ℕ, zero, suc, ◌+◌, ◌*◌, ◌^◌, ◌<◌, ◌≤◌, List, [], ◌∷◌, ◌++◌, length, get_or, take, drop, set, map, sym, refl, ap, ◌∙◌, mul-zero, mul-suc, add-one, arith, w8, Fits}
use borrow.Rule.Slice.PartMut.{put_mid}
use Rattle.std.specs.List.{flat_map, AllByRecursion}
use Rattle.std.proofs.lemmas.List.{map-append, length-take, length-take-le, length-drop, length-append, take-append-drop, take_at, drop_at, nil_from_length, take_more, take_more_set, drop-drop, flat_map_more}
use Rattle.std.proofs.lemmas.Slice.{take-put_mid}
use Rattle.std.proofs.ByRecursion.{All-from_get_or, All-take, All-drop}
use Rattle.nodes.specs.Format.{Bytes, bytes_of, value_of, values_of}
use Rattle.nodes.proofs.LowFirst.{length_bytes_of, value_bytes, bytes_value, value_under}

-- the code's bytes are bytes
pub all_bytes : (bs : List ℕ) → ((i : ℕ) → Fits w8 (get_or bs i 0)) → Bytes bs
all_bytes bs h = All-from_get_or (λ b. b < 256) bs 0 (λ i _. (h i).fits)

-- where the next number begins
next : (w i : ℕ) → w + w * i ≡ w * suc i
next w i = rw (mul-suc w i) (omega arith)

-- one more number is read
pub values_more : (w i : ℕ) (bs : List ℕ) → values_of w (suc i) bs ≡ values_of w i bs ++ value_of (take w (drop (w * i) bs)) ∷ []
unfolding values_of
values_more w zero bs = rw (mul-zero w)
values_more w (suc i) bs =
    ap (λ l. value_of (take w bs) ∷ l)
    (values_more w i (drop w bs) ∙ ap (λ l. values_of w i (drop w bs) ++ value_of (take w l) ∷ []) (drop-drop (w * i) w bs ∙ ap (λ j. drop j bs) (next w i)))

pub reads_more : {X : Type 0} (f : X → ℕ) (w i a k : ℕ) (bs : List ℕ) (xs : List X) (x : X) → i < length xs → a ≡ w * i → k ≡ w → f x ≡ value_of (take k (drop a bs)) → map f (take i xs) ≡ values_of w i bs → map f (take (i + 1) (set xs i x)) ≡ values_of w (i + 1) bs
reads_more f w i a k bs xs x lt ae ke ne h =
    ap (map f) (take_more_set xs i x lt)
    ∙ map-append f (take i xs) (x ∷ [])
    ∙ ap (λ l. l ++ f x ∷ []) h
    ∙ ap (λ v. values_of w i bs ++ v ∷ []) (ne ∙ ap (λ j. value_of (take k (drop j bs))) ae ∙ ap (λ j. value_of (take j (drop (w * i) bs))) ke)
    ∙ sym (values_more w i bs)
    ∙ ap (λ j. values_of w j bs) (sym (add-one i))

-- a part of bytes is as long as it is cut
pub part_long : (bs : List ℕ) (a k w : ℕ) → k ≡ w → a + w ≤ length bs → length (take k (drop a bs)) ≡ w
part_long bs a k w ke le = simp (length-take, length-drop) (omega arith)

pub length_values : (w k : ℕ) (bs : List ℕ) → length (values_of w k bs) ≡ k
unfolding values_of
length_values w zero bs = refl
length_values w (suc k) bs = ap suc (length_values w k (drop w bs))

-- number i of those that are read
pub get_d_values : (w k i : ℕ) (bs : List ℕ) → i < k → get_or (values_of w k bs) i 0 ≡ value_of (take w (drop (w * i) bs))
unfolding values_of
get_d_values w zero i bs lt = absurd (omega arith)
get_d_values w (suc k) zero bs lt = rw (mul-zero w)
get_d_values w (suc k) (suc i) bs lt =
    get_d_values w k i (drop w bs) (omega arith)
    ∙ ap (λ l. value_of (take w l)) (drop-drop (w * i) w bs ∙ ap (λ j. drop j bs) (next w i))

pub values_fit : (w k : ℕ) (bs : List ℕ) → Bytes bs → AllByRecursion (λ n. n < 256 ^ w) (values_of w k bs)
unfolding values_of
values_fit w zero bs h = tt
values_fit w (suc k) bs h =
    (value_under (take w bs) w (simp length-take (omega arith)) (All-take (λ b. b < 256) w bs h), values_fit w k (drop w bs) (All-drop (λ b. b < 256) w bs h))

pub length_joined : (w : ℕ) (xs : List ℕ) → length (flat_map (bytes_of w) xs) ≡ w * length xs
length_joined w [] = sym (mul-zero w)
length_joined w (x ∷ xs) = rw (length-append (bytes_of w x) (flat_map (bytes_of w) xs), length_bytes_of w x, length_joined w xs, mul-suc w (length xs)) (omega arith)

-- numbers that fit are read as they were written
pub values_written : (w k : ℕ) (xs : List ℕ) → length xs ≡ k → AllByRecursion (λ n. n < 256 ^ w) xs → values_of w k (flat_map (bytes_of w) xs) ≡ xs
unfolding values_of
values_written w zero [] e h = refl
values_written w zero (x ∷ xs) e h = absurd (omega arith)
values_written w (suc k) [] e h = absurd (omega arith)
values_written w (suc k) (x ∷ xs) e h =
    let l = length_bytes_of w x in
    rw (take_at (bytes_of w x) (flat_map (bytes_of w) xs) w l, drop_at (bytes_of w x) (flat_map (bytes_of w) xs) w l, value_bytes w x h.0, values_written w k xs (omega arith) h.1)

-- bytes are written as they were read
pub written_values : (w k : ℕ) (bs : List ℕ) → length bs ≡ w * k → Bytes bs → flat_map (bytes_of w) (values_of w k bs) ≡ bs
unfolding values_of
written_values w zero bs e h = sym (nil_from_length bs (e ∙ mul-zero w))
written_values w (suc k) bs e h =
    let m : w * suc k ≡ w + w * k = rw (mul-suc w k) (omega arith) in
    let l : length (take w bs) ≡ w = length-take-le w bs (omega arith) in
    let d : length (drop w bs) ≡ w * k = simp length-drop (omega arith) in
    let v : bytes_of w (value_of (take w bs)) ≡ take w bs = ap (λ j. bytes_of j (value_of (take w bs))) (sym l) ∙ bytes_value (take w bs) (All-take (λ b. b < 256) w bs h) in
    rw (v, written_values w k (drop w bs) d (All-drop (λ b. b < 256) w bs h)) (take-append-drop w bs)

-- one more number is written
pub writes_more : (w i n a k : ℕ) (bs part xs : List ℕ) → i < length xs → n ≡ get_or xs i 0 → a ≡ w * i → k ≡ w → a + w ≤ length bs → part ≡ bytes_of w n → take a bs ≡ flat_map (bytes_of w) (take i xs) → take (w * (i + 1)) (put_mid a k bs part) ≡ flat_map (bytes_of w) (take (i + 1) xs)
writes_more w i n a k bs part xs lt ne ae ke in' pe h =
    let l : length part ≡ w = ap length pe ∙ length_bytes_of w n in
    let m : w * (i + 1) ≡ a + length part = ap (λ j. w * j) (add-one i) ∙ mul-suc w i ∙ omega arith in
    take-put_mid a k bs part (w * (i + 1)) m (omega arith)
    ∙ ap (λ z. z ++ part) h
    ∙ ap (λ z. flat_map (bytes_of w) (take i xs) ++ z) (pe ∙ ap (bytes_of w) ne)
    ∙ flat_map_more (bytes_of w) [] (take i xs) (get_or xs i 0)
    ∙ ap (flat_map (bytes_of w)) (sym (take_more xs i 0 lt))
