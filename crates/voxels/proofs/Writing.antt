-- Writing entries one behind another, each in so many bytes.
use Rattle.std.proofs.Common.{◌≡◌, ℕ, suc, ◌+◌, ◌-◌, ◌*◌, ◌^◌, ◌<◌, ◌≤◌, List, [], ◌∷◌, ◌++◌, map, length, get_or, take, drop, Some, None, sym, refl, ap, ◌∙◌, subst, ap₂, append_assoc, mul-le-mul_left, mul-zero, mul-suc, add-one, arith, take-append-drop}
use borrow.Rule.Slice.PartMut.{put_mid}
use Rattle.std.specs.List.{slice_get, flat_map, AllByRecursion}
use Rattle.std.proofs.lemmas.Option.{slice_get-get_or}
use Rattle.std.proofs.lemmas.List.{take_more, take_all, drop_all, flat_map_more, drop-drop, take-append-le, drop-append-le}
use Rattle.std.proofs.lemmas.Slice.{take-put_mid, drop-put_mid}
use Rattle.nodes.specs.Format.{bytes_of, node_bytes, read_node, read_nodes, value_of, values_of, written}
use Rattle.nodes.specs.declared.node.Node.{Node}
use Rattle.nodes.proofs.LowFirst.{length_bytes_of, value_bytes}

-- the front of the buffer holds the first i entries, and what lies behind them is as it was
pub record Front {X : Type 0} (f : X → List ℕ) (w i : ℕ) (xs : List X) (before after : List ℕ) : Type 0 where
  pub entries : take (w * i) after ≡ flat_map f (take i xs)
  pub rest : drop (w * i) after ≡ drop (w * i) before

module _ {X : Type 0} (f : X → List ℕ) (w : ℕ) (xs : List X) (before : List ℕ) where
  pub front_none : Front f w 0 xs before before
  front_none = record { entries = ap (λ n. take n before) (mul-zero w); rest = refl }

  -- one more entry
  pub front_more : (i a k : ℕ) (bs part : List ℕ) (d : X) → i < length xs → a ≡ w * i → k ≡ w → a + w ≤ length bs → part ≡ f (get_or xs i d) → length part ≡ w
      → Front f w i xs before bs → Front f w (i + 1) xs before (put_mid a k bs part)
  front_more i a k bs part d lt ae ke inside pe l front =
      let m : w * (i + 1) ≡ a + w = ap (λ j. w * j) (add-one i) ∙ mul-suc w i ∙ omega arith in
      record {
        entries =
            take-put_mid a k bs part (w * (i + 1)) (omega arith) (omega arith)
            ∙ ap₂ (λ p q. p ++ q) (ap (λ n. take n bs) ae ∙ front.entries) pe
            ∙ flat_map_more f [] (take i xs) (get_or xs i d)
            ∙ ap (flat_map f) (sym (take_more xs i d lt));
        rest =
            drop-put_mid a k bs part (w * (i + 1)) (omega arith) (omega arith) (omega arith)
            ∙ later (w * i) (w * (i + 1)) bs (omega arith) front.rest;
      }
    where
      later : (m n : ℕ) (bs : List ℕ) → m ≤ n → drop m bs ≡ drop m before → drop n bs ≡ drop n before
      later m n bs h e =
          let k : m + (n - m) ≡ n = omega arith in
          sym (drop-drop (n - m) m bs ∙ ap (λ j. drop j bs) k) ∙ ap (drop (n - m)) e ∙ drop-drop (n - m) m before ∙ ap (λ j. drop j before) k

  -- all entries
  pub front_all : (i : ℕ) (bs : List ℕ) → i ≡ length xs → Front f w i xs before bs → bs ≡ flat_map f xs ++ drop (w * length xs) before
  front_all i bs e front =
      sym (take-append-drop (w * i) bs) ∙ ap₂ (λ p q. p ++ q) (front.entries ∙ ap (flat_map f) (take_all i xs (omega arith))) front.rest
      ∙ ap (λ n. flat_map f xs ++ drop (w * n) before) e

-- the place of one more entry lies inside the buffer
pub place_inside : (w n count size : ℕ) → n < count → w * count ≤ size → w * n + w ≤ size
place_inside w n count size h l =
    let e : w * suc n ≡ w * n + w = mul-suc w n in
    let f = mul-le-mul_left w h in
    omega arith

-- a word that is there
pub same_word : (ws : List ℕ) (n x : ℕ) → n < length ws → slice_get ws n ≡ Some x → x ≡ get_or ws n 0
same_word ws n x h e = let f = slice_get-get_or ws n 0 h in let o : Some x ≡ Some (get_or ws n 0) = sym e ∙ f in cc

pub no_word : (ws : List ℕ) (n : ℕ) → n < length ws → slice_get ws n ≡ None → ⊥
no_word ws n h e = let f = slice_get-get_or ws n 0 h in let z : ◌≡◌ {A = ℕ} 0 1 = cc in omega arith

-- ---- reading back

-- what stands first, and what follows
take_first : (xs ys : List ℕ) (n : ℕ) → length xs ≡ n → take n (xs ++ ys) ≡ xs
take_first xs ys n e = take-append-le n xs ys (omega arith) ∙ take_all n xs (omega arith)

drop_first : (xs ys : List ℕ) (n : ℕ) → length xs ≡ n → drop n (xs ++ ys) ≡ ys
drop_first xs ys n e = drop-append-le n xs ys (omega arith) ∙ ap (λ zs. zs ++ ys) (drop_all n xs (omega arith))

-- a record that comes back from its 50 bytes
abbrev pub Back : Node → Type 0
Back node = (length (written node) ≡ node_bytes) × (read_node (written node) ≡ node)

pub nodes_back : (ns : List Node) (rest : List ℕ) → AllByRecursion Back ns → read_nodes (length ns) (flat_map written ns ++ rest) ≡ ns
unfolding read_nodes
nodes_back [] rest all = refl
nodes_back (node ∷ ns) rest all =
    let e = append_assoc (written node) (flat_map written ns) rest in
    let t : take node_bytes ((written node ++ flat_map written ns) ++ rest) ≡ written node = ap (take node_bytes) e ∙ take_first (written node) (flat_map written ns ++ rest) node_bytes all.0.0 in
    let d : drop node_bytes ((written node ++ flat_map written ns) ++ rest) ≡ flat_map written ns ++ rest = ap (drop node_bytes) e ∙ drop_first (written node) (flat_map written ns ++ rest) node_bytes all.0.0 in
    ap₂ (λ (a : Node) (bs : List Node). a ∷ bs) (ap read_node t ∙ all.0.1) (ap (read_nodes (length ns)) d ∙ nodes_back ns rest all.1)

-- words that fit their width
pub words_back : (w : ℕ) (ws rest : List ℕ) → AllByRecursion (λ x. x < 256 ^ w) ws → values_of w (length ws) (flat_map (bytes_of w) ws ++ rest) ≡ ws
unfolding values_of
words_back w [] rest all = refl
words_back w (x ∷ ws) rest all =
    let e = append_assoc (bytes_of w x) (flat_map (bytes_of w) ws) rest in
    let t = ap (take w) e ∙ take_first (bytes_of w x) (flat_map (bytes_of w) ws ++ rest) w (length_bytes_of w x) in
    let d = ap (drop w) e ∙ drop_first (bytes_of w x) (flat_map (bytes_of w) ws ++ rest) w (length_bytes_of w x) in
    ap₂ (λ (a : ℕ) (bs : List ℕ). a ∷ bs) (ap value_of t ∙ value_bytes w x all.0) (ap (values_of w (length ws)) d ∙ words_back w ws rest all.1)

-- the words of tags fit the kind's width
pub words_fit : {K : Type 0} (word_of : K → ℕ) (w : ℕ) → ((t : K) → word_of t < 256 ^ w) → (tags : List K) (ws : List ℕ) → ws ≡ map word_of tags → AllByRecursion (λ x. x < 256 ^ w) ws
words_fit {K = K} word_of w fits tags ws e = subst (AllByRecursion (λ x. x < 256 ^ w)) (sym e) (each tags)
  where
    each : (ts : List K) → AllByRecursion (λ x. x < 256 ^ w) (map word_of ts)
    each [] = tt
    each (t ∷ ts) = (fits t, each ts)
