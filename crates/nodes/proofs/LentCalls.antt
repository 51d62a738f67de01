-- The memory of a pool in lent places, after each call.
use Rattle.std.proofs.Common.{◌≡◌, ℕ, zero, suc, ◌+◌, ◌-◌, ◌*◌, ◌<◌, ◌≤◌, List, [], ◌∷◌, ◌++◌, length, get_or, take, drop, sym, ap, ◌∙◌, subst, mul-zero, mul-suc, add-one, arith}
use Rattle.std.proofs.lemmas.List.{length-append, length-take, length-take-le, length-drop, nil_from_length, take_all, take_at, drop_at, take-take, take-append-le, get_or-take}
use borrow.Rule.Slice.PartMut.{put_mid}
use Rattle.std.proofs.Math.Seq.{get_or-append_seam}
use Rattle.std.proofs.Math.Nat.{mul-le-mul_left}
use Rattle.nodes.specs.declared.node.Node.{Node}
use Rattle.nodes.specs.declared.place.Place.{Ghosts as PlaceMeaning}
use Rattle.nodes.specs.Records.{blank}
use Rattle.nodes.specs.Pools.{capped, front}
use Rattle.nodes.specs.Memory.{laid}
use Rattle.nodes.specs.LentPools.{span_inside}
use Rattle.nodes.proofs.Blanks.{InOrder, over, length_laid, take_laid, drop_laid, made, cut_back, put_on, put_part}

module _ {X : Type 0} (place : PlaceMeaning X) where
  -- the capacity of so many places
  abbrev pub room : ℕ → ℕ
  room n = capped (place.room n)

  pub span_more : (n : ℕ) → place.span (n + 1) ≡ place.span n + place.WIDTH
  span_more n =
      place.spans (n + 1) ∙ ap (λ k. place.WIDTH * k) (add-one n) ∙ mul-suc place.WIDTH n ∙ omega (arith, place.spans n)

  pub span_le : (a b : ℕ) → a ≤ b → place.span a ≤ place.span b
  span_le a b le =
      let m : place.WIDTH * a ≤ place.WIDTH * b = mul-le-mul_left place.WIDTH le in
      omega (arith, place.spans a, place.spans b)

  -- the product that the code computes
  pub spanned : (w n : ℕ) → w ≡ place.WIDTH → w * n ≡ place.span n
  spanned w n e = ap (λ v. v * n) e ∙ sym (place.spans n)

  -- fewer records are the first of them
  firsts : (k n : ℕ) (m : List X) → place.span (n + k) ≤ length m → take n (place.nodes_in (n + k) m) ≡ place.nodes_in n m
  firsts zero n m le =
      let e : n + 0 ≡ n = omega arith in
      let l : place.span n ≤ length m = rw e at le in
      ap (λ j. take n (place.nodes_in j m)) e ∙ take_all n (place.nodes_in n m) (omega (arith, place.long n m l))
  firsts (suc k) n m le =
      let e : n + suc k ≡ n + k + 1 = omega arith in
      let l : place.span (n + k + 1) ≤ length m = rw e at le in
      let l' : place.span (n + k) ≤ length m = omega (arith, span_le (n + k) (n + k + 1) (omega arith)) in
      ap (λ j. take n (place.nodes_in j m)) e
      ∙ ap (take n) (place.more (n + k) m l)
      ∙ take-append-le n (place.nodes_in (n + k) m) _ (omega (arith, place.long (n + k) m l'))
      ∙ firsts k n m l'

  pub take_nodes : (n c : ℕ) (m : List X) → n ≤ c → place.span c ≤ length m → take n (place.nodes_in c m) ≡ place.nodes_in n m
  take_nodes n c m le in' =
      let e : n + (c - n) ≡ c = omega arith in
      let l : place.span (n + (c - n)) ≤ length m = rw e in' in
      ap (λ j. take n (place.nodes_in j m)) (sym e) ∙ firsts (c - n) n m l

  -- record n of those that are read
  pub node_at : (n c : ℕ) (m : List X) → n < c → place.span c ≤ length m → get_or (place.nodes_in c m) n blank ≡ place.node_in (take place.WIDTH (drop (place.span n) m))
  node_at n c m lt in' =
      let l : place.span (n + 1) ≤ length m = omega (arith, span_le (n + 1) c (omega arith)) in
      let l' : place.span n ≤ length m = omega (arith, span_le n c (omega arith)) in
      let x = place.node_in (take place.WIDTH (drop (place.span n) m)) in
      sym (get_or-take (n + 1) (place.nodes_in c m) n blank (omega arith))
      ∙ ap (λ l. get_or l n blank) (take_nodes (n + 1) c m (omega arith) in' ∙ place.more n m l)
      ∙ ap (λ j. get_or (place.nodes_in n m ++ x ∷ []) j blank) (sym (place.long n m l'))
      ∙ get_or-append_seam (place.nodes_in n m) x [] blank

  -- the front that a call keeps
  pub kept : (m m' : List X) (k n : ℕ) → k ≡ n → take (place.span n) m' ≡ take (place.span n) m → front k (place.shown m') ≡ front k (place.shown m)
  kept m m' k n e h =
      ap (λ j. front j (place.shown m')) e ∙ place.fronts n m' ∙ ap place.shown h ∙ sym (place.fronts n m) ∙ ap (λ j. front j (place.shown m)) (sym e)

  -- what a call leaves of the places m: those of the list, the list, the capacity, the blanks and what lies behind
  pub record Stays (m m' part : List X) (list : List Node) (count : ℕ) : Type 0 where
    pub fits : room (length m') ≡ room (length m)
    pub within : count ≤ room (length m')
    pub order : m' ≡ laid place.empty (take (place.span count) m') (place.span (room (length m'))) (drop (place.span (room (length m'))) m')
    pub front_is : take (place.span count) m' ≡ part
    pub list_is : place.nodes_in count m' ≡ list
    pub behind : drop (place.span (room (length m'))) m' ≡ drop (place.span (room (length m))) m

  stays : (m m' part : List X) (list : List Node) (count : ℕ) → count ≤ room (length m) → length part ≡ place.span count → place.nodes_in count part ≡ list → m' ≡ laid place.empty part (place.span (room (length m))) (drop (place.span (room (length m))) m) → Stays m m' part list count
  stays m m' part list count le lp f h =
      let y = place.empty in
      let p = place.span (room (length m)) in
      let in' : p ≤ length m = span_inside place (room (length m)) (length m) (omega arith) in
      let le' : place.span count ≤ p = span_le count (room (length m)) le in
      let long : length m' ≡ length m = ap length h ∙ length_laid y part (drop p m) p (omega arith) ∙ simp length-drop (omega arith) in
      let e : room (length m') ≡ room (length m) = ap room long in
      let front : take (place.span count) m' ≡ part = ap (take (place.span count)) h ∙ take_laid y part (drop p m) (place.span count) p lp in
      let back : drop p m' ≡ drop p m = ap (drop p) h ∙ drop_laid y part (drop p m) p (omega arith) in
      let order : InOrder y (place.span count) p m' =
      h ∙ ap (λ l. laid y l p (drop p m)) (sym front) ∙ ap (laid y (take (place.span count) m') p) (sym back) in
      record {
        fits = e;
        within = omega arith;
        order = subst (λ r. InOrder y (place.span count) (place.span r) m') (sym e) order;
        front_is = front;
        list_is = sym (place.own count m' (omega arith)) ∙ ap (place.nodes_in count) front ∙ f;
        behind = ap (λ r. drop (place.span r) m') e ∙ back;
      }

  pub stays_made : (m m' : List X) (c p : ℕ) → p ≡ room (length m) → c ≤ p → m' ≡ over m (place.span c) (place.span p) place.empty → Stays m m' (take (place.span c) m) (place.nodes_in c m) c
  stays_made m m' c p pe le e =
      let in' = span_inside place c (length m) (omega arith) in
      stays m m' (take (place.span c) m) (place.nodes_in c m) c (omega arith) (length-take-le (place.span c) m in') (place.own c m in')
      (e ∙ made place.empty m (place.span c) (place.span p) in' ∙ ap (λ r. laid place.empty (take (place.span c) m) (place.span r) (drop (place.span r) m)) pe)

  pub stays_cut : (m m' : List X) (n c : ℕ) → n ≤ c → c ≤ room (length m) → InOrder place.empty (place.span c) (place.span (room (length m))) m → m' ≡ over m (place.span n) (place.span c) place.empty → Stays m m' (take (place.span n) m) (take n (place.nodes_in c m)) n
  stays_cut m m' n c le le' h e =
      let in' = span_inside place c (length m) le' in
      let ln = span_le n c le in
      stays m m' (take (place.span n) m) (take n (place.nodes_in c m)) n (omega arith) (length-take-le (place.span n) m (omega arith)) (place.own n m (omega arith) ∙ sym (take_nodes n c m le in'))
      (e ∙ cut_back place.empty m (place.span n) (place.span c) (place.span (room (length m))) ln (span_le c (room (length m)) le') in' h)

  pub stays_added : (m part : List X) (node : Node) (c w k : ℕ) → w ≡ place.WIDTH → k ≡ place.WIDTH → c < room (length m) → length part ≡ place.WIDTH → place.node_in part ≡ node → InOrder place.empty (place.span c) (place.span (room (length m))) m → Stays m (put_mid (w * c) k m part) (take (place.span c) m ++ part) (place.nodes_in c m ++ node ∷ []) (c + 1)
  stays_added m part node c w k we ke lt lp np h =
      let s = span_more c in
      let in' : place.span (c + 1) ≤ length m = span_inside place (c + 1) (length m) (omega arith) in
      let le : place.span (c + 1) ≤ place.span (room (length m)) = span_le (c + 1) (room (length m)) (omega arith) in
      let lc : length (take (place.span c) m) ≡ place.span c = length-take-le (place.span c) m (omega arith) in
      let whole = take (place.span c) m ++ part in
      let lw : length whole ≡ place.span (c + 1) = length-append (take (place.span c) m) part ∙ omega arith in
      let list : place.nodes_in c whole ≡ place.nodes_in c m =
      sym (place.own c whole (omega arith)) ∙ ap (place.nodes_in c) (take_at (take (place.span c) m) part (place.span c) lc) ∙ place.own c m (omega arith) in
      let last : place.node_in (take place.WIDTH (drop (place.span c) whole)) ≡ node =
      ap (λ l. place.node_in (take place.WIDTH l)) (drop_at (take (place.span c) m) part (place.span c) lc)
      ∙ ap place.node_in (take_all place.WIDTH part (omega arith)) ∙ np in
      stays m (put_mid (w * c) k m part) whole (place.nodes_in c m ++ node ∷ []) (c + 1) (omega arith) lw
      (place.more c whole (omega arith) ∙ ap (λ l. l ++ place.node_in (take place.WIDTH (drop (place.span c) whole)) ∷ []) list ∙ ap (λ x. place.nodes_in c m ++ x ∷ []) last)
      (put_part m part (w * c) (place.span c) k (length part) (spanned w c we) (omega arith)
      ∙ put_on place.empty m part (place.span c) (place.span (room (length m))) (omega arith) (omega arith) h)

  -- the places of the records that were there stay
  pub front_stays : (m m' part : List X) (list : List Node) (c : ℕ) → place.span c ≤ length m → Stays m m' (take (place.span c) m ++ part) list (c + 1) → take (place.span c) m' ≡ take (place.span c) m
  front_stays m m' part list c le h =
      sym (take-take (place.span c) (place.span (c + 1)) m' (span_le c (c + 1) (omega arith)))
      ∙ ap (take (place.span c)) h.front_is
      ∙ take_at (take (place.span c) m) part (place.span c) (length-take-le (place.span c) m le)

  -- the places of record n
  pub part_inside : (n c k w : ℕ) → w ≡ place.WIDTH → n < c → c ≤ room k → w * n + place.WIDTH ≤ k
  part_inside n c k w we lt le =
      omega (arith, spanned w n we, span_inside place c k le, span_more n, span_le (n + 1) c (omega arith))

  pub part_at : (n c w k : ℕ) (m : List X) → w ≡ place.WIDTH → k ≡ place.WIDTH → n < c → c ≤ room (length m) → (length (take k (drop (w * n) m)) ≡ place.WIDTH) × (place.node_in (take k (drop (w * n) m)) ≡ get_or (place.nodes_in c m) n blank)
  part_at n c w k m we ke lt le =
      let inside = part_inside n c (length m) w we lt le in (
        simp (length-take, length-drop) (omega arith),
        ap (λ j. place.node_in (take k (drop j m))) (spanned w n we)
            ∙ ap (λ j. place.node_in (take j (drop (place.span n) m))) ke
            ∙ sym (node_at n c m lt (span_inside place c (length m) le)),
      )

  pub nodes_none : (n : ℕ) (m : List X) → n ≡ 0 → place.nodes_in n m ≡ []
  nodes_none n m e =
      let z : place.span n ≡ 0 = place.spans n ∙ ap (λ k. place.WIDTH * k) e ∙ mul-zero place.WIDTH in
      nil_from_length (place.nodes_in n m) (place.long n m (omega arith) ∙ e)
