-- No list that marks the same cells is shorter than the sealed list.
use Rattle.std.proofs.Common.{◌≡◌, ℕ, zero, suc, ◌+◌, ◌-◌, ◌*◌, ◌/◌, ◌%◌, ◌^◌, ◌<◌, ◌≤◌, Bool, true, false, not, ◌&&◌, eqb, ltb, List, length, sym, refl, ap, ◌∙◌, subst, inl, inr, mod-eq_of_lt, zero-add, zero-mul, mul-add, arith}
use lib.Arith.{digits_div}
use Rattle.std.proofs.lemmas.Bool.{ltb-true, lt-ltb, eqb-true, and_parts, both_ways}
use Rattle.cells.specs.Hall.{bit}
use Rattle.cells.specs.SubCubes.{child}
use Rattle.cells.proofs.Digits.{above_digit}
use Rattle.nodes.specs.Records.{none}
use Rattle.nodes.specs.declared.node.Node.{Node}
use Rattle.dag.specs.Sets.{Rising, has, count}
use Rattle.dag.specs.Rules.{node_at, link_of}
use Rattle.dag.specs.Walk.{leads, walk, root, MarksExactly}
use Rattle.dag.specs.Records.{lowest, first, occupied, record_of}
use Rattle.dag.specs.Sealed.{sealed}
use Rattle.dag.specs.Fewest.{FewestRecords}
use Rattle.dag.proofs.Counts.{count_wider}
use Rattle.dag.proofs.Visits.{times_eight}
use Rattle.dag.proofs.Contents.{SameCells, child_code, child_inside, first_next, record_alike, occupied_cell}
use Rattle.dag.proofs.Whole.{Distinct, sealed_distinct}
use Rattle.dag.proofs.Origins.{Inside, Sourced, sealed_sourced}
use Rattle.dag.proofs.Pigeon.{Total, Apart, pigeon}

-- ---- a walk on levels up to k asks for the code's place in its sub-cube alone

walk_step : (ns : List Node) (k n c d : ℕ) → child (suc k) c ≡ child (suc k) d
    → ((m : ℕ) → walk ns k m c ≡ walk ns k m d) → walk ns (suc k) n c ≡ walk ns (suc k) n d
unfolding walk
walk_step ns k n c d e h =
    ap (λ i. eqb (bit i (node_at ns n).mask) 1 && leads ns n k (link_of (node_at ns n) i) && walk ns k (link_of (node_at ns n) i) c) e
    ∙ ap (λ t. eqb (bit (child (suc k) d) (node_at ns n).mask) 1 && leads ns n k (link_of (node_at ns n) (child (suc k) d)) && t)
    (h (link_of (node_at ns n) (child (suc k) d)))

child_digit : (k c : ℕ) → child (suc k) c ≡ c / 8 ^ k % 8
child_digit k c =
    let e : suc k - 1 ≡ k = omega arith in
    ap (λ j. c / 8 ^ j % 8) e

pub walk_inside : (ns : List Node) (q o top k n : ℕ) → k ≤ top → walk ns k n (q * 8 ^ top + o) ≡ walk ns k n o
walk_inside ns q o top zero n h = unfold walk in refl
walk_inside ns q o top (suc k) n h =
    walk_step ns k n (q * 8 ^ top + o) o
    (child_digit k (q * 8 ^ top + o) ∙ above_digit 8 q o top k (omega arith) h ∙ sym (child_digit k o))
    (λ m. walk_inside ns q o top k m (omega arith))

-- ---- occupied sub-cubes

-- where a sub-cube is occupied, so is every sub-cube around it
child_full : (cells : List ℕ) (k s i : ℕ) → i < 8 → occupied cells k (8 * s + i) ≡ true → occupied cells (suc k) s ≡ true
child_full cells k s i l h =
    let e : first (suc k) s ≡ first k (8 * s) = times_eight k s in
    let f : first (suc k) (s + 1) ≡ first k (8 * s + 8) = times_eight k (s + 1) ∙ ap (first k) (mul-add 8 s 1) in
    let p = first_next k (8 * s) i in
    let q = first_next k (8 * s + i) 1 in
    let r : first k (8 * s + 8) ≡ first k (8 * s + i + 1) + (7 - i) * 8 ^ k =
    ap (first k) (omega arith) ∙ first_next k (8 * s + i + 1) (7 - i) in
    let w = count_wider cells (first (suc k) s) (first k (8 * s + i)) (first k (8 * s + i + 1)) (first (suc k) (s + 1)) (omega arith) (omega arith) (omega arith) in
    let c = ltb-true 0 (count cells (first k (8 * s + i)) (first k (8 * s + i + 1))) h in
    lt-ltb 0 (count cells (first (suc k) s) (first (suc k) (s + 1))) (omega arith)

around_full : (cells : List ℕ) (k s j t : ℕ) → Inside k s j t → occupied cells j t ≡ true → occupied cells k s ≡ true
around_full cells zero s j t (e, f) h = subst (λ q. occupied cells 0 q ≡ true) f (subst (λ q. occupied cells q t ≡ true) e h)
around_full cells (suc k) s j t (inl (e, f)) h = subst (λ q. occupied cells (suc k) q ≡ true) f (subst (λ q. occupied cells q t ≡ true) e h)
around_full cells (suc k) s j t (inr (i, l, q)) h = child_full cells k s i l (around_full cells k (8 * s + i) j t q h)

-- ---- the record of a rival that stands for a sub-cube

-- record m of the rival has level k, and the walk from it arrives exactly at the cells of sub-cube s
pub record Serves (cells : List ℕ) (ms : List Node) (k s m : ℕ) : Type 0 where
  pub there : m < length ms
  pub level : (node_at ms m).level ≡ k
  pub tells : (o : ℕ) → o < 8 ^ k → walk ms k m o ≡ has cells (first k s + o)

abbrev pub Served : List ℕ → List Node → ℕ → ℕ → Type 0
Served cells ms k s = (m : ℕ) × Serves cells ms k s m

-- a test whose first part holds is its second part
and_rest : (x y : Bool) → x ≡ true → (x && y) ≡ y
and_rest true y e = refl
and_rest false y e = absurd (both_ways false refl e)

module _ (cells : List ℕ) (ms : List Node) where
  pub root_served : (L : ℕ) → MarksExactly L ms cells → occupied cells L 0 ≡ true → Served cells ms L 0
  root_served L exact h =
      let c = occupied_cell cells L 0 h in
      let p = and_parts _ _ (exact c.0 c.1 ∙ sym (begin c.0) ∙ c.2) in
      let q = and_parts _ _ p.0 in
      let l = ltb-true 0 (length ms) q.0 in (
        root ms,
        record {
          there = omega arith;
          level = eqb-true (node_at ms (root ms)).level L q.1;
          tells = λ o b. sym (and_rest _ (walk ms L (root ms) o) p.0) ∙ exact o b ∙ sym (begin o);
        },
      )
    where
      begin : (o : ℕ) → has cells (first L 0 + o) ≡ has cells o
      begin o = ap (has cells) (rw (zero-mul (8 ^ L)) (zero-add o))

  -- the walk to a code of child i goes by link i
  pub walk_child : (k m i o : ℕ) → i < 8 → o < 8 ^ k
      → walk ms (suc k) m (i * 8 ^ k + o) ≡ (eqb (bit i (node_at ms m).mask) 1 && leads ms m k (link_of (node_at ms m) i) && walk ms k (link_of (node_at ms m) i) o)
  unfolding walk
  walk_child k m i o l b =
      let e : child (suc k) (i * 8 ^ k + o) ≡ i = child_digit k (i * 8 ^ k + o) ∙ ap (λ d. d % 8) (digits_div i b) ∙ mod-eq_of_lt l in
      ap (λ j. eqb (bit j (node_at ms m).mask) 1 && leads ms m k (link_of (node_at ms m) j) && walk ms k (link_of (node_at ms m) j) (i * 8 ^ k + o)) e
      ∙ ap (λ t. eqb (bit i (node_at ms m).mask) 1 && leads ms m k (link_of (node_at ms m) i) && t)
      (walk_inside ms i o k k (link_of (node_at ms m) i) (omega arith))

  -- where a link leads on, it names an earlier record of the level below
  leads_on : (m k n : ℕ) → leads ms m (suc k) n ≡ true → (n < m) × ((node_at ms n).level ≡ suc k)
  leads_on m k n h =
      let p = and_parts (not (eqb n none) && ltb n m) (eqb (node_at ms n).level (suc k)) h in
      let q = and_parts (not (eqb n none)) (ltb n m) p.0 in
      (ltb-true n m q.1, eqb-true (node_at ms n).level (suc k) p.1)

  -- below a record that stands for a sub-cube, link i stands for child i if that is occupied
  pub child_served : (k s m i : ℕ) → i < 8 → Serves cells ms (suc (suc k)) s m → occupied cells (suc k) (8 * s + i) ≡ true
      → Serves cells ms (suc k) (8 * s + i) (link_of (node_at ms m) i)
  child_served k s m i l h o =
      let n = link_of (node_at ms m) i in
      let set = eqb (bit i (node_at ms m).mask) 1 in
      let c = occupied_cell cells (suc k) (8 * s + i) o in
      let p = and_parts (set && leads ms m (suc k) n) (walk ms (suc k) n c.0) (sym (walk_child (suc k) m i c.0 l c.1) ∙ below c.0 c.1 ∙ c.2) in
      let r = leads_on m k n (and_parts set (leads ms m (suc k) n) p.0).1 in
      record {
        there = omega (arith, r.0, h.there);
        level = r.1;
        tells = λ u b. sym (and_rest (set && leads ms m (suc k) n) (walk ms (suc k) n u) p.0) ∙ sym (walk_child (suc k) m i u l b) ∙ below u b;
      }
    where
      below : (u : ℕ) → u < 8 ^ suc k → walk ms (suc (suc k)) m (i * 8 ^ suc k + u) ≡ has cells (first (suc k) (8 * s + i) + u)
      below u b = h.tells (i * 8 ^ suc k + u) (child_inside (suc k) i u l b) ∙ sym (ap (has cells) (child_code (suc k) s i u))

  -- every occupied sub-cube inside is stood for too
  pub inside_served : (k s j t : ℕ) → Inside k s (suc j) t → occupied cells (suc j) t ≡ true → Served cells ms k s → Served cells ms (suc j) t
  inside_served zero s j t (e, f) o h = absurd (omega arith)
  inside_served (suc k) s j t (inl (e, f)) o h =
      subst (λ q. Served cells ms q t) (sym e) (subst (Served cells ms (suc k)) (sym f) h)
  inside_served (suc zero) s j t (inr (i, l, (e, f))) o h = absurd (omega arith)
  inside_served (suc (suc k)) s j t (inr (i, l, q)) o h =
      let full = around_full cells (suc k) (8 * s + i) (suc j) t q o in
      inside_served (suc k) (8 * s + i) j t q o (link_of (node_at ms h.0) i, child_served k s h.0 i l h.1 full)

  -- one record of the rival stands only for sub-cubes with the same cells
  pub served_alike : (k s t m : ℕ) → Serves cells ms k s m → Serves cells ms k t m → SameCells cells cells k s t
  served_alike k s t m h l o b = sym (h.tells o b) ∙ l.tells o b

-- ---- different records need different numbers in the rival

-- record n is that of a sub-cube for which record m of the rival stands
pub record Stands (cells : List ℕ) (ns ms : List Node) (n m : ℕ) : Type 0 where
  pub j : ℕ
  pub t : ℕ
  pub is : node_at ns n ≡ record_of cells ns j t
  pub serves : Serves cells ms (suc j) t m

module _ (cells : List ℕ) (ns ms : List Node) (rising : Rising cells) (distinct : Distinct ns) where
  same_record : (n p m j s t : ℕ) → node_at ns n ≡ record_of cells ns j s → Serves cells ms (suc j) s m
      → node_at ns p ≡ record_of cells ns j t → Serves cells ms (suc j) t m → node_at ns n ≡ node_at ns p
  same_record n p m j s t e a f b =
      e ∙ record_alike cells cells rising rising ns j s t (served_alike cells ms (suc j) s t m a b) ∙ sym f

  stands_apart : Apart (Stands cells ns ms) (length ns)
  stands_apart n p m h l a b =
      let a-level = a.serves.level in
      let b-level = b.serves.level in
      let e : b.j ≡ a.j = omega arith in
      let f = same_record n p m a.j a.t b.t a.is a.serves
      (subst (λ q. node_at ns p ≡ record_of cells ns q b.t) e b.is)
      (subst (λ q. Serves cells ms (suc q) b.t m) e b.serves) in
      sym (distinct n h) ∙ ap (lowest ns) f ∙ distinct p l

  stands_total : (L : ℕ) → Sourced cells L 0 ns → MarksExactly L ms cells → Total (Stands cells ns ms) (length ns) (length ms)
  stands_total L sourced exact n h =
      let o = sourced n h in
      let top = root_served cells ms L exact (around_full cells L 0 (suc o.j) o.t o.inside o.full) in
      let m = inside_served cells ms L 0 o.j o.t o.inside o.full top in
      (m.0, m.1.there, record { j = o.j; t = o.t; is = o.is; serves = m.1 })

-- the walk itself checks the links, so that the rules are not asked for
pub no_fewer : (L : ℕ) (cells : List ℕ) (ms : List Node) → Rising cells → MarksExactly L ms cells → length (sealed L cells) ≤ length ms
no_fewer L cells ms rising exact =
    let ns = sealed L cells in
    let distinct = sealed_distinct L cells in
    pigeon (length ns) (length ms) (Stands cells ns ms)
    (stands_total cells ns ms rising distinct L (sealed_sourced L cells) exact) (stands_apart cells ns ms rising distinct)

pub fewest_records : FewestRecords
fewest_records L cells ms set rules exact = no_fewer L cells ms set.rising exact
