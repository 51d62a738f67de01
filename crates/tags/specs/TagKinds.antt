-- The kinds: which numbers make a tag, and what its word tells.
use Rattle.std.specs.Prelude.{◌≡◌, ℕ, ◌/◌, ◌%◌, ◌^◌, ◌<◌, ◌≤◌, true, ◌||◌, Some, None}
use Rattle.std.proofs.Common.{sym, ap, ◌∙◌, arith}
use Rattle.std.proofs.lemmas.Bool.{leb-true}
use Rattle.std.proofs.lemmas.Bool.Decides.{nat_tests}
use Rattle.std.proofs.Math.Bridge.{le_prop}
use Rattle.std.proofs.Math.Decide.{dec_le}
use Rattle.tags.specs.declared.speed.Speed.{Speed}
use Rattle.tags.specs.declared.load.Load.{Load}
use Rattle.tags.specs.declared.label.Label.{Label}
use Rattle.tags.specs.Bounds.{top_speed, top_load, top_zone, first_plate, last_plate, speed_width, load_width, label_width}
use Rattle.tags.specs.Speeds.{limit_of, speed_of, slower}
use Rattle.tags.specs.Loads.{load_at, load_of, load_word, lighter}
use Rattle.tags.specs.Labels.{plate_of, label_of}
use Rattle.tags.specs.Makes.{only_if_yes, only_if_no, only_if_some, some_same}

pub speed_inside : (n : ℕ) (low : n ≤ top_speed) → speed_of n ≡ Some (record { limit = n; low = low })
speed_inside n low = only_if_yes le_prop (dec_le n top_speed) _ low

pub speed_outside : (n : ℕ) → top_speed < n → speed_of n ≡ None
speed_outside n high = only_if_no (dec_le n top_speed) _ (omega arith)

pub speed_back : (t : Speed) → speed_of t.limit ≡ Some t
speed_back t = speed_inside t.limit t.low

pub speed_only : (n : ℕ) (t : Speed) → speed_of n ≡ Some t → t.limit ≡ n
speed_only n t e = let p = only_if_some (dec_le n top_speed) _ t e in ap (λ s. s.limit) (sym (some_same _ t p.1))

-- a speed limit is told by its number
pub speed_same : (a b : Speed) → a.limit ≡ b.limit → a ≡ b
speed_same a b e = some_same a b (sym (speed_back a) ∙ ap speed_of e ∙ speed_back b)

pub load_inside : (n z : ℕ) (light : n ≤ top_load) (near : z ≤ top_zone) → load_at n z ≡ Some (record { load = n; zone = z; light = light; near = near })
load_inside n z light near =
    only_if_yes le_prop (dec_le n top_load) _ light ∙ only_if_yes le_prop (dec_le z top_zone) _ near

pub load_heavy : (n z : ℕ) → top_load < n → load_at n z ≡ None
load_heavy n z high = only_if_no (dec_le n top_load) _ (omega arith)

pub load_far : (n z : ℕ) → n ≤ top_load → top_zone < z → load_at n z ≡ None
load_far n z light high = only_if_yes le_prop (dec_le n top_load) _ light ∙ only_if_no (dec_le z top_zone) _ (omega arith)

-- a load in a zone is told by its two numbers
pub load_same : (a b : Load) → a.load ≡ b.load → a.zone ≡ b.zone → a ≡ b
load_same a b e f =
    some_same a b
    (sym (load_inside a.load a.zone a.light a.near) ∙ ap (λ n. load_at n a.zone) e ∙ ap (λ z. load_at b.load z) f
    ∙ load_inside b.load b.zone b.light b.near)

pub load_back : (t : Load) → load_of (load_word t.load t.zone) ≡ Some t
load_back t =
    let light = t.light in
    let rest : load_word t.load t.zone % 8192 ≡ t.load = omega arith in
    let times : load_word t.load t.zone / 8192 ≡ t.zone = omega arith in
    ap (λ n. load_at n (load_word t.load t.zone / 8192)) rest ∙ ap (λ z. load_at t.load z) times
    ∙ load_inside t.load t.zone t.light t.near

pub load_only : (w : ℕ) (t : Load) → load_of w ≡ Some t → load_word t.load t.zone ≡ w
load_only w t e =
    let p = only_if_some (dec_le (w % 8192) top_load) _ t e in
    let q = only_if_some (dec_le (w / 8192) top_zone) _ t p.1 in
    let s = some_same _ t q.1 in
    let n : w % 8192 ≡ t.load = ap (λ l. l.load) s in
    let z : w / 8192 ≡ t.zone = ap (λ l. l.zone) s in
    omega arith

pub label_inside : (n : ℕ) (some : first_plate ≤ n) (last : n ≤ last_plate) → label_of n ≡ Some (record { plate = n; some = some; last = last })
label_inside n some last =
    only_if_yes le_prop (dec_le first_plate n) _ some ∙ only_if_yes le_prop (dec_le n last_plate) _ last

pub label_below : (n : ℕ) → n < first_plate → label_of n ≡ None
label_below n low = only_if_no (dec_le first_plate n) _ (omega arith)

pub label_above : (n : ℕ) → first_plate ≤ n → last_plate < n → label_of n ≡ None
label_above n some high = only_if_yes le_prop (dec_le first_plate n) _ some ∙ only_if_no (dec_le n last_plate) _ (omega arith)

pub label_back : (t : Label) → label_of t.plate ≡ Some t
label_back t = label_inside t.plate t.some t.last

pub label_only : (n : ℕ) (t : Label) → label_of n ≡ Some t → t.plate ≡ n
label_only n t e =
    let p = only_if_some (dec_le first_plate n) _ t e in
    let q = only_if_some (dec_le n last_plate) _ t p.1 in
    ap (λ s. s.plate) (sym (some_same _ t q.1))

-- ---- widths, and words that fit them

pub speed_bytes : (1 ≤ speed_width) × (speed_width ≤ 4)
speed_bytes = (omega arith, omega arith)

pub speed_fits : (t : Speed) → limit_of t < 256 ^ speed_width
speed_fits t = let low = t.low in omega arith

pub load_bytes : (1 ≤ load_width) × (load_width ≤ 4)
load_bytes = (omega arith, omega arith)

pub load_fits : (t : Load) → load_word t.load t.zone < 256 ^ load_width
load_fits t = let light = t.light in let near = t.near in omega arith

pub label_bytes : (1 ≤ label_width) × (label_width ≤ 4)
label_bytes = (omega arith, omega arith)

pub label_fits : (t : Label) → plate_of t < 256 ^ label_width
label_fits t = let last = t.last in omega arith

-- ---- the orders of strictness

pub slower_total : (a b : Speed) → (slower a b || slower b a) ≡ true
slower_total a b = grind (arith, nat_tests)

pub slower_same : (a b : Speed) → slower a b ≡ true → slower b a ≡ true → a ≡ b
slower_same a b p q = speed_same a b (omega (arith, leb-true a.limit b.limit p, leb-true b.limit a.limit q))

pub slower_through : (a b c : Speed) → slower a b ≡ true → slower b c ≡ true → slower a c ≡ true
slower_through a b c p q = grind (arith, nat_tests)

pub lighter_total : (a b : Load) → (lighter a b || lighter b a) ≡ true
lighter_total a b = grind (arith, nat_tests)

pub lighter_same : (a b : Load) → lighter a b ≡ true → lighter b a ≡ true → a ≡ b
lighter_same a b p q = load_same a b (grind (arith, nat_tests)) (grind (arith, nat_tests))

pub lighter_through : (a b c : Load) → lighter a b ≡ true → lighter b c ≡ true → lighter a c ≡ true
lighter_through a b c p q = grind (arith, nat_tests)
