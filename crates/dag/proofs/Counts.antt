-- Counting cells over intervals of codes.
use Rattle.std.proofs.Common.{◌≡◌, ℕ, ◌+◌, ◌≤◌, cond, ◌&&◌, ◌||◌, eqb, ltb, leb, List, [], ◌∷◌, refl, ap, ◌∙◌, arith}
use Rattle.std.proofs.lemmas.Bool.Decides.{nat_tests}
use Rattle.dag.specs.Sets.{count, holds, has}

one_split : (c a b d : ℕ) → a ≤ b → b ≤ d → cond (leb a c && ltb c d) 1 0 ≡ cond (leb a c && ltb c b) 1 0 + cond (leb b c && ltb c d) 1 0
one_split c a b d h l = grind (arith, nat_tests)

-- counts of adjoining intervals add up
pub count_split : (cells : List ℕ) (a b d : ℕ) → a ≤ b → b ≤ d → count cells a d ≡ count cells a b + count cells b d
unfolding count
count_split [] a b d h l = refl
count_split (c ∷ cells) a b d h l =
    let e = one_split c a b d h l in
    let f = count_split cells a b d h l in
    omega arith

one_none : (c a b : ℕ) → b ≤ a → cond {A = ℕ} (leb a c && ltb c b) 1 0 ≡ 0
one_none c a b h = grind (arith, nat_tests)

pub count_none : (cells : List ℕ) (a b : ℕ) → b ≤ a → count cells a b ≡ 0
unfolding count
count_none [] a b h = refl
count_none (c ∷ cells) a b h =
    let e = one_none c a b h in
    let f = count_none cells a b h in
    omega arith

one_has : (d c n : ℕ) → (eqb d c || ltb 0 n) ≡ ltb 0 (cond {A = ℕ} (leb c d && ltb d (c + 1)) 1 0 + n)
one_has d c n = grind (arith, nat_tests)

-- a code is one of the cells exactly if the interval of that code alone holds one
pub has_holds : (cells : List ℕ) (c : ℕ) → has cells c ≡ holds cells c (c + 1)
unfolding count has
has_holds [] c = refl
has_holds (d ∷ cells) c =
    ap (λ t. eqb d c || t) (has_holds cells c) ∙ one_has d c (count cells c (c + 1))

-- a wider interval holds no fewer
pub count_wider : (cells : List ℕ) (a b d e : ℕ) → a ≤ b → b ≤ d → d ≤ e → count cells b d ≤ count cells a e
count_wider cells a b d e h l m =
    let p = count_split cells a b e h (omega arith) in
    let q = count_split cells b d e l m in
    omega arith
