-- From a visit to the visits of its children.
use Rattle.std.proofs.Common.{◌≡◌, ℕ, suc, ◌+◌, ◌*◌, ◌/◌, ◌%◌, ◌^◌, ◌<◌, ◌≤◌, Bool, true, false, cond, List, length, Some, None, sym, refl, ap, ◌∙◌, subst, ap₂, inl, inr, add_assoc, pow-suc, div-add-mod', le-div_iff_mul-le, zero-add, div-le_self, arith}
use native.Mathlib.Nat.{div-div-eq-div-mul, div-eq_of_lt, pow-le-pow_right}
use Rattle.std.proofs.lemmas.Bool.{lt-ltb, eq-eqb}
use Rattle.std.proofs.lemmas.Bool.Decides.{nat_tests}
use Rattle.cells.specs.Hall.{bit, axis, cell_at, cell_fits}
use Rattle.cells.specs.SubCubes.{sub_cube, child}
use Rattle.cells.specs.Boxes.{box_holds}
use Rattle.cells.specs.declared.hall.Cell.{Cell}
use Rattle.cells.specs.declared.boxes.CellBox.{CellBox}
use Rattle.cells.proofs.Digits.{base_pos}
use Rattle.cells.proofs.Codes.{axis_bit, axis_below, bit_0, bit_1, bit_2, cell_fits_lem}
use Rattle.nodes.specs.declared.node.Node.{Node}
use Rattle.dag.specs.Rules.{node_at}
use Rattle.dag.specs.Walk.{walk, path, total, root}
use Rattle.dag.proofs.Marks.{child_is, child_below, child_step}
use Rattle.voxels.specs.declared.visit.Visit.{Visit}
use Rattle.voxels.specs.Finds.{found, Shut, GoesTo}
use Rattle.voxels.specs.Visiting.{shrunk, shrunk_box, child_place, Near, Visits, Nothing}

-- ---- places

-- a code in child i of sub-cube s
in_child : (k s i code : ℕ) → i < 8 → sub_cube k code ≡ 8 * s + i → (sub_cube (suc k) code ≡ s) × (child (suc k) code ≡ i)
in_child k s i code h e =
    let a = child_step k code in
    let b = child_below k code in (omega arith, omega arith)

-- one more bit of a coordinate
half : (v k a d : ℕ) → v / 2 ^ suc k ≡ a → v / 2 ^ k % 2 ≡ d → v / 2 ^ k ≡ 2 * a + d
half v k a d e f =
    let g : v / 2 ^ suc k ≡ v / 2 ^ k / 2 = ap (λ p. v / p) (pow-suc 2 k) ∙ sym (div-div-eq-div-mul v (2 ^ k) 2) in
    omega arith

child_lies : (L k i code : ℕ) (at : Cell) → k < L → i < 8 → child (suc k) code ≡ i → shrunk (suc k) (cell_at L code) ≡ at → shrunk k (cell_at L code) ≡ child_place at i
child_lies L k i code at l h c e =
    let q : code / 8 ^ k % 8 ≡ i = sym (child_is k code) ∙ c in
    let bx : axis L 0 code / 2 ^ k % 2 ≡ i % 2 = axis_bit L code 0 k l ∙ ap (λ j. bit j code) (omega arith) ∙ bit_0 code k ∙ ap (λ n. n % 2) q in
    let by : axis L 1 code / 2 ^ k % 2 ≡ i / 2 % 2 = axis_bit L code 1 k l ∙ bit_1 code k ∙ ap (λ n. n / 2 % 2) q in
    let bz : axis L 2 code / 2 ^ k % 2 ≡ i / 4 = axis_bit L code 2 k l ∙ bit_2 code k ∙ ap (λ n. n / 4 % 2) q ∙ omega arith in
    let x = half (axis L 0 code) k at.x (i % 2) (ap (λ (p : Cell). p.x) e) bx in
    let y = half (axis L 1 code) k at.y (i / 2 % 2) (ap (λ (p : Cell). p.y) e) by in
    let z = half (axis L 2 code) k at.z (i / 4) (ap (λ (p : Cell). p.z) e) bz in
    λ j. record { x = x j; y = y j; z = z j }

-- larger numbers have larger halves
div_mono : (a b k : ℕ) → a ≤ b → a / 2 ^ k ≤ b / 2 ^ k
div_mono a b k h = let e = div-add-mod' a (2 ^ k) in (le-div_iff_mul-le (base_pos 2 k (omega arith))).1 (omega arith)

-- a box that holds a cell meets the cell's sub-cube
meets_held : (k : ℕ) (bounds : CellBox) (c : Cell) → box_holds bounds c ≡ true → box_holds (shrunk_box k bounds) (shrunk k c) ≡ true
meets_held k bounds c e =
    let lx : bounds.low.x ≤ c.x = grind (arith, nat_tests) in
    let ly : bounds.low.y ≤ c.y = grind (arith, nat_tests) in
    let lz : bounds.low.z ≤ c.z = grind (arith, nat_tests) in
    let hx : c.x ≤ bounds.high.x = grind (arith, nat_tests) in
    let hy : c.y ≤ bounds.high.y = grind (arith, nat_tests) in
    let hz : c.z ≤ bounds.high.z = grind (arith, nat_tests) in
    let a = div_mono bounds.low.x c.x k lx in
    let b = div_mono bounds.low.y c.y k ly in
    let d = div_mono bounds.low.z c.z k lz in
    let f = div_mono c.x bounds.high.x k hx in
    let g = div_mono c.y bounds.high.y k hy in
    let h = div_mono c.z bounds.high.z k hz in
    grind (arith, nat_tests)

-- what meets a box of the hall lies in the hall
pub near_met : (k : ℕ) (bounds : CellBox) (at : Cell) → Near bounds.high → box_holds (shrunk_box k bounds) at ≡ true → Near at
near_met k bounds at near e =
    let x : at.x ≤ bounds.high.x / 2 ^ k = grind (arith, nat_tests) in
    let y : at.y ≤ bounds.high.y / 2 ^ k = grind (arith, nat_tests) in
    let z : at.z ≤ bounds.high.z / 2 ^ k = grind (arith, nat_tests) in
    let a = div-le_self bounds.high.x (2 ^ k) in
    let b = div-le_self bounds.high.y (2 ^ k) in
    let c = div-le_self bounds.high.z (2 ^ k) in
    record { x = omega (arith, near.x); y = omega (arith, near.y); z = omega (arith, near.z) }

-- ---- the visits of the children

module _ (L : ℕ) (ns : List Node) (bounds : CellBox) (s i k : ℕ) (visit : Visit) (h : i < 8) (e : visit.level ≡ suc k) (v : Visits L ns bounds s visit) where
  low : k < L
  low = omega (arith, v.within)

  place : (code : ℕ) → sub_cube k code ≡ 8 * s + i → shrunk k (cell_at L code) ≡ child_place visit.at i
  place code c =
      let p = in_child k s i code h c in
      child_lies L k i code visit.at low h p.1 (subst (λ l. (code : ℕ) → sub_cube l code ≡ s → shrunk l (cell_at L code) ≡ visit.at) e v.lies code p.0)

  found_from : (code : ℕ) → sub_cube k code ≡ 8 * s + i
      → found L ns code ≡ cond (walk ns (suc k) visit.node code) (Some (visit.rank + total (path ns (suc k) visit.node code))) None
  found_from code c =
      subst (λ l. (code : ℕ) → sub_cube l code ≡ s → found L ns code ≡ cond (walk ns l visit.node code) (Some (visit.rank + total (path ns l visit.node code))) None)
      e v.finds code (in_child k s i code h c).0

  -- a child beside the box
  pub child_beside : box_holds (shrunk_box k bounds) (child_place visit.at i) ≡ false → Nothing L ns bounds k (8 * s + i)
  child_beside out code c = inl (go (box_holds bounds (cell_at L code)) refl)
    where
      go : (b : Bool) → box_holds bounds (cell_at L code) ≡ b → b ≡ false
      go false f = refl
      go true f =
          let m : box_holds (shrunk_box k bounds) (child_place visit.at i) ≡ true = subst (λ p. box_holds (shrunk_box k bounds) p ≡ true) (place code c) (meets_held k bounds (cell_at L code) f) in
          sym m ∙ out

  -- a free child
  pub child_free : Shut ns k visit.node i → Nothing L ns bounds k (8 * s + i)
  child_free shut code c =
      inr (found_from code c ∙ ap (λ b. cond b (Some (visit.rank + total (path ns (suc k) visit.node code))) None) (shut code (in_child k s i code h c).1))

  -- a child to go on with
  pub child_visits : (next : Visit) → next.level ≡ k → next.at ≡ child_place visit.at i → box_holds (shrunk_box k bounds) (child_place visit.at i) ≡ true
      → (offset : ℕ) → next.rank ≡ visit.rank + offset → GoesTo ns k visit.node i next.node offset → Visits L ns bounds (8 * s + i) next
  child_visits next l at met offset r goes = record {
    within = omega (arith, low);
    meets = subst (λ p. box_holds (shrunk_box next.level bounds) p ≡ true) (sym at) (subst (λ j. box_holds (shrunk_box j bounds) (child_place visit.at i) ≡ true) (sym l) met);
    lies = subst (λ j. (code : ℕ) → sub_cube j code ≡ 8 * s + i → shrunk j (cell_at L code) ≡ next.at) (sym l) (λ code c. place code c ∙ sym at);
    finds = subst (λ j. (code : ℕ) → sub_cube j code ≡ 8 * s + i → found L ns code ≡ cond (walk ns j next.node code) (Some (next.rank + total (path ns j next.node code))) None) (sym l) finds_on;
  }
    where
      finds_on : (code : ℕ) → sub_cube k code ≡ 8 * s + i → found L ns code ≡ cond (walk ns k next.node code) (Some (next.rank + total (path ns k next.node code))) None
      finds_on code c =
          let d = (in_child k s i code h c).1 in
          let t : visit.rank + total (path ns (suc k) visit.node code) ≡ next.rank + total (path ns k next.node code) =
          ap (λ n. visit.rank + n) (goes.adds code d) ∙ sym (add_assoc visit.rank offset (total (path ns k next.node code))) ∙ ap (λ n. n + total (path ns k next.node code)) (sym r) in
          found_from code c ∙ ap₂ (λ (b : Bool) (n : ℕ). cond b (Some n) None) (goes.walks code d) t

-- ---- the visit of the whole hall

pub near_fits : (L : ℕ) (c : Cell) → L ≤ 10 → cell_fits L c ≡ true → Near c
near_fits L c h e =
    let f = cell_fits_lem L c e in
    let p = pow-le-pow_right {n = 2} (omega arith) h in
    record { x = omega (arith, f.0); y = omega (arith, f.1); z = omega (arith, f.2) }

module _ (L : ℕ) (ns : List Node) (bounds : CellBox) where
  pub root_visits : (visit : Visit) → visit.level ≡ L → visit.at ≡ record { x = 0; y = 0; z = 0 } → visit.node ≡ root ns → visit.rank ≡ 0
      → 0 < length ns → (node_at ns (root ns)).level ≡ L → cell_fits L bounds.low ≡ true → Visits L ns bounds 0 visit
  root_visits visit l at n r some level fits = record {
    within = omega (arith, l);
    meets = subst (λ k. box_holds (shrunk_box k bounds) visit.at ≡ true) (sym l) (subst (λ p. box_holds (shrunk_box L bounds) p ≡ true) (sym at) meets_root);
    lies = subst (λ k. (code : ℕ) → sub_cube k code ≡ 0 → shrunk k (cell_at L code) ≡ visit.at) (sym l) (λ code c. lies_root code ∙ sym at);
    finds = subst (λ k. (code : ℕ) → sub_cube k code ≡ 0 → found L ns code ≡ cond (walk ns k visit.node code) (Some (visit.rank + total (path ns k visit.node code))) None) (sym l)
        (λ code c. finds_root code ∙ ap₂ (λ m s. cond (walk ns L m code) (Some (s + total (path ns L m code))) None) (sym n) (sym r));
  }
    where
      meets_root : box_holds (shrunk_box L bounds) (record { x = 0; y = 0; z = 0 }) ≡ true
      meets_root =
          let f = cell_fits_lem L bounds.low fits in
          let x : bounds.low.x / 2 ^ L ≡ 0 = div-eq_of_lt f.0 in
          let y : bounds.low.y / 2 ^ L ≡ 0 = div-eq_of_lt f.1 in
          let z : bounds.low.z / 2 ^ L ≡ 0 = div-eq_of_lt f.2 in
          grind (arith, nat_tests)

      lies_root : (code : ℕ) → shrunk L (cell_at L code) ≡ record { x = 0; y = 0; z = 0 }
      lies_root code = λ j. record {
        x = div-eq_of_lt (axis_below L 0 code) j;
        y = div-eq_of_lt (axis_below L 1 code) j;
        z = div-eq_of_lt (axis_below L 2 code) j;
      }

      finds_root : (code : ℕ) → found L ns code ≡ cond (walk ns L (root ns) code) (Some (0 + total (path ns L (root ns) code))) None
      finds_root code =
          rw (lt-ltb 0 (length ns) some, eq-eqb (node_at ns (root ns)).level L level)
          (ap (λ m. cond (walk ns L (root ns) code) (Some m) None) (sym (zero-add (total (path ns L (root ns) code)))))
