-- What a palette store holds after a word was put at place n, and when it has no room for it.
use Rattle.std.proofs.Common.{◌≡◌, ℕ, ◌+◌, ◌-◌, ◌*◌, ◌/◌, ◌%◌, ◌<◌, ◌≤◌, min, true, false, ◌≢◌, Bool, cond, not, Ok, Err, Result, List, [], ◌∷◌, ◌++◌, length, get_or, set, Some, sym, refl, ap, ◌∙◌, subst, ⊎_elim, arith, length-set}
use Rattle.std.specs.List.{slice_get}
use Rattle.std.specs.Result.{OnOk, OnErr, IsOkUnless}
use Rattle.std.proofs.lemmas.List.{set-get_or, get_or-set_same, get_or-set_other, get_or_append_left, get_or_push, length_push, ext_get_or, get_or_default}
use Rattle.std.proofs.lemmas.Option.{slice_get-get_or}
use Rattle.std.proofs.lemmas.Bool.{cases_eq, and_left, and_right, and_from, lt-leb, lt-ltb, le-ltb}
use Rattle.cells.specs.declared.refusal.Refusal.{Refusal}
use Rattle.cells.specs.declared.refusal.Refusal.TheVariants.{StoreFull}
use Rattle.cells.specs.Refusals.{Answer, answer, refuse_if}
use Rattle.tags.specs.declared.palette.block.Block.{Block}
use Rattle.tags.specs.Stores.{most_words, can_add, can_change}
use Rattle.tags.specs.Palettes.{block_words, is_in, words_of_block, palette_admits}
use Rattle.tags.specs.Blocks.{blank, spelled, palette_words, NamesLowest, Tidy}
use Rattle.tags.specs.Spots.{Full, Put}
use Rattle.tags.proofs.Spelling.{spelt, spelt_at, words_long, words_at, in_block, too_many, palette_held}
use Rattle.tags.proofs.Puts.{spells_kept, spells_new, lowest_kept, lowest_new, full_many}

-- word n is what its block spells there
pub palette_word : (blocks : List Block) (count : ℕ) → count ≤ length blocks * block_words → (n : ℕ) → n < count → (b : Block) → b ≡ get_or blocks (n / block_words) b → Some (get_or (spelled b) (n % block_words) 0) ≡ slice_get (palette_words blocks count) n
palette_word blocks count room n low b is =
    let long = words_long blocks count room in
    let block = is ∙ get_or_default blocks (n / block_words) b blank (omega arith) in
    ap (λ x. Some (get_or (spelled x) (n % block_words) 0)) block
    ∙ sym (slice_get-get_or (palette_words blocks count) n 0 (omega arith) ∙ ap (λ x. Some x) (words_at blocks count room n low))

-- a store that holds as many words as it can admits none more
pub no_room : (blocks : List Block) (count w : ℕ) → count ≤ length blocks * block_words → min (length blocks * block_words) most_words ≤ count → palette_admits (length blocks) (palette_words blocks count ++ w ∷ []) ≡ false
no_room blocks count w room full =
    let long = words_long blocks count room in
    let more = length_push (palette_words blocks count) w in
    and_left _ _ (lt-leb (length (palette_words blocks count ++ w ∷ [])) (min (length blocks * block_words) most_words) (omega arith))

-- how many words of the block of word n are in use
abbrev pub used_at : ℕ → ℕ → ℕ
used_at count n = min block_words (count - n / block_words * block_words)

-- the list `after` is the words, with w at place n
pub record Changed (words after : List ℕ) (n w : ℕ) : Type 0 where
  pub others : (m : ℕ) → m < length words → (m ≡ n → ⊥) → get_or after m 0 ≡ get_or words m 0
  pub new : get_or after n 0 ≡ w
  pub inside : n < length after
  pub whole : length words ≤ length after
  pub no_more : (m : ℕ) → m < length after → (m ≡ n → ⊥) → m < length words

module _ (blocks : List Block) (count : ℕ) (room : count ≤ length blocks * block_words) (tidy : Tidy blocks count) (n w : ℕ) (near : n ≤ count) (there : n < length blocks * block_words) where
  used_inside : used_at count n ≤ block_words
  used_inside = omega arith

  i_here : n % block_words < block_words
  i_here = omega arith

  -- word m of the same block has an index in use
  index_used : (m : ℕ) → m < count → m / block_words ≡ n / block_words → m % block_words < used_at count n
  index_used m low same = omega arith

  index_other : (m : ℕ) → m / block_words ≡ n / block_words → (m ≡ n → ⊥) → m % block_words ≡ n % block_words → ⊥
  index_other m same other e = other (omega arith)

  module _ (c : Block) (put : Put (get_or blocks (n / block_words) blank) c (used_at count n) (n % block_words) w) where
    block_new : get_or (set blocks (n / block_words) c) (n / block_words) blank ≡ c
    block_new = get_or-set_same blocks (n / block_words) c blank (omega arith)

    spells_other : (m : ℕ) → m < count → (m ≡ n → ⊥) → spelt (set blocks (n / block_words) c) m ≡ spelt blocks m
    spells_other m low other =
        ⊎_elim
        (λ same. rw same (rw block_new
        (spells_kept (get_or blocks (n / block_words) blank) c (used_at count n) (n % block_words) w used_inside i_here put (m % block_words) (index_used m low same) (index_other m same other))))
        (λ apart. rw (get_or-set_other blocks (n / block_words) (m / block_words) c blank apart) refl)
        (cases_eq (m / block_words) (n / block_words))

    spells_there : spelt (set blocks (n / block_words) c) n ≡ w
    spells_there = rw block_new (spells_new (get_or blocks (n / block_words) blank) c (used_at count n) (n % block_words) w used_inside i_here put)

    -- the words then are the list with the word at place n
    pub words_after : (after : List ℕ) → Changed (palette_words blocks count) after n w → length after ≤ length blocks * block_words → palette_words (set blocks (n / block_words) c) (length after) ≡ after
    words_after after changed fits =
        let long = words_long blocks count room in
        let same = length-set blocks (n / block_words) c in
        let more : length after ≤ length (set blocks (n / block_words) c) * block_words = omega arith in
        let long' = words_long (set blocks (n / block_words) c) (length after) more in
        ext_get_or 0 _ after long' (λ m low.
        words_at (set blocks (n / block_words) c) (length after) more m (omega arith)
        ∙ ⊎_elim
        (λ e. rw e (spells_there ∙ sym changed.new))
        (λ ne. let m-low : m < count = omega (arith, changed.no_more m (omega arith) ne) in
        spells_other m m-low ne ∙ sym (words_at blocks count room m m-low) ∙ sym (changed.others m (omega arith) ne))
        (cases_eq m n))

    tidy_other : (m : ℕ) → m < count → (m ≡ n → ⊥) → NamesLowest (get_or (set blocks (n / block_words) c) (m / block_words) blank) (m % block_words)
    tidy_other m low other =
        ⊎_elim
        (λ same. rw same (rw block_new
        (lowest_kept (get_or blocks (n / block_words) blank) c (used_at count n) (n % block_words) w used_inside i_here put (m % block_words) (index_used m low same) (index_other m same other)
        (rw same at (tidy m low)))))
        (λ apart. rw (get_or-set_other blocks (n / block_words) (m / block_words) c blank apart) (tidy m low))
        (cases_eq (m / block_words) (n / block_words))

    tidy_there : NamesLowest (get_or (set blocks (n / block_words) c) (n / block_words) blank) (n % block_words)
    tidy_there = rw block_new (lowest_new (get_or blocks (n / block_words) blank) c (used_at count n) (n % block_words) w used_inside i_here put)

    pub tidy_after : (later : ℕ) → ((m : ℕ) → m < later → (m ≡ n → ⊥) → m < count) → Tidy (set blocks (n / block_words) c) later
    tidy_after later no_more m low =
        ⊎_elim
        (λ e. rw e tidy_there)
        (λ ne. tidy_other m (no_more m low ne) ne)
        (cases_eq m n)

  -- where the block is full, the list with the word at place n is not admitted
  pub refused : Full (get_or blocks (n / block_words) blank) (used_at count n) (n % block_words) w → (after : List ℕ) → Changed (palette_words blocks count) after n w → palette_admits (length blocks) after ≡ false
  refused full after changed =
      let long = words_long blocks count room in
      let block = get_or blocks (n / block_words) blank in
      let k = n / block_words in
      let inside = changed.inside in
      let whole = changed.whole in
      let many = full_many block (used_at count n) (n % block_words) w used_inside full
      (λ j low other.
      let quotient : (k * block_words + j) / block_words ≡ k = omega arith in
      let rest : (k * block_words + j) % block_words ≡ j = omega arith in
      let m-low : k * block_words + j < count = omega arith in
      rw rest at (rw quotient at (tidy (k * block_words + j) m-low)))
      (words_of_block k after)
      (λ j low other.
      let quotient : (k * block_words + j) / block_words ≡ k = omega arith in
      let m-low : k * block_words + j < count = omega arith in
      let apart : k * block_words + j ≡ n → ⊥ = λ e. other (omega arith) in
      let spell : get_or after (k * block_words + j) 0 ≡ get_or (spelled block) j 0
      = changed.others (k * block_words + j) (omega arith) apart ∙ words_at blocks count room (k * block_words + j) m-low
      ∙ spelt_at blocks k j (omega arith) in
      ap (λ v. is_in v (words_of_block k after)) (sym spell) ∙ in_block after k (k * block_words + j) (omega arith) quotient)
      (ap (λ v. is_in v (words_of_block k after)) (sym changed.new) ∙ in_block after k n inside refl) in
      and_right _ _ (too_many after k (length blocks) (omega arith) many)

-- a word more at the end, and another word in the place of word n
pub changed_add : (words : List ℕ) (w : ℕ) → Changed words (words ++ w ∷ []) (length words) w
changed_add words w =
    let long = length_push words w in
    record {
      others = λ m low _. get_or_append_left words (w ∷ []) 0 m low;
      new = get_or_push words w 0 (length words) refl;
      inside = omega arith;
      whole = omega arith;
      no_more = λ m low ne. let apart : m ≢ length words = ne in omega arith;
    }

pub changed_set : (words : List ℕ) (n w : ℕ) → n < length words → Changed words (set words n w) n w
changed_set words n w low =
    let long = length-set words n w in
    record {
      others = λ m _ ne. get_or-set_other words n m w 0 ne;
      new = get_or-set_same words n w 0 low;
      inside = omega arith;
      whole = omega arith;
      no_more = λ m h _. omega arith;
    }

-- what a store has after it took a word: its memory spells the list afterwards, which is admitted, and is tidy
pub record Took (blocks later : List Block) (count : ℕ) (after : List ℕ) : Type 0 where
  pub accepted : palette_admits (length blocks) after ≡ true
  pub words : palette_words later count ≡ after
  pub fits : count ≤ min (length later * block_words) most_words
  pub held : palette_admits (length later) (palette_words later count) ≡ true
  pub tidy : Tidy later count

-- what a store answers, and has, after it was offered a word: it took the word, or it is as it was
pub record Offered (blocks later : List Block) (count : ℕ) (after : List ℕ) (r : Result (Unit {0}) Refusal) (takes : Bool) : Type 0 where
  pub answer : answer r ≡ refuse_if (not takes) 7 (Answer.gives tt)
  pub words : palette_words later count ≡ cond takes after (palette_words blocks count)
  pub fits : count ≤ min (length later * block_words) most_words
  pub held : palette_admits (length later) (palette_words later count) ≡ true
  pub tidy : Tidy later count

module _ (blocks : List Block) (count : ℕ) (fits : count ≤ min (length blocks * block_words) most_words) (tidy : Tidy blocks count) (n w : ℕ) (near : n ≤ count) (there : n < length blocks * block_words) (d : Block) (used : ℕ) (is-used : used ≡ used_at count n) where
  block_read : get_or blocks (n / block_words) d ≡ get_or blocks (n / block_words) blank
  block_read = get_or_default blocks (n / block_words) d blank (omega arith)

  pub took : (c : Block) → Put (get_or blocks (n / block_words) d) c used (n % block_words) w → (after : List ℕ) (later : ℕ) → Changed (palette_words blocks count) after n w → later ≡ length after → later ≤ min (length blocks * block_words) most_words → Took blocks (set blocks (n / block_words) c) later after
  took c put after later changed long room =
      let put' = rw is-used at (rw block_read at put) in
      let later-words : palette_words (set blocks (n / block_words) c) later ≡ after
      = ap (palette_words (set blocks (n / block_words) c)) long
      ∙ words_after blocks count (omega arith) tidy n w near there c put' after changed (omega arith) in
      let same = length-set blocks (n / block_words) c in
      let held = palette_held (set blocks (n / block_words) c) later (omega arith) (omega arith) in
      let full-count = words_long blocks count (omega arith) in
      record {
        accepted = sym (ap (λ k. palette_admits k after) same) ∙ sym (ap (palette_admits (length (set blocks (n / block_words) c))) later-words) ∙ held;
        words = later-words;
        fits = omega arith;
        held = held;
        tidy = tidy_after blocks count (omega arith) tidy n w near there c put' later (λ m low ne. let h = changed.no_more m (omega arith) ne in omega arith);
      }

  pub took_none : Full (get_or blocks (n / block_words) d) used (n % block_words) w → (after : List ℕ) → Changed (palette_words blocks count) after n w → palette_admits (length blocks) after ≡ false
  took_none full after changed =
      let full' = rw is-used at (rw block_read at full) in
      refused blocks count (omega arith) tidy n w near there full' after changed

module _ (blocks : List Block) (count : ℕ) (fits : count ≤ min (length blocks * block_words) most_words) (tidy : Tidy blocks count) (w : ℕ) where
  pub add_none : (d : Block) → count / block_words < length blocks → Full (get_or blocks (count / block_words) d) (count % block_words) (count % block_words) w → can_add (palette_admits (length blocks)) (palette_words blocks count) w ≡ false
  add_none d room full =
      let long = words_long blocks count (omega arith) in
      took_none blocks count fits tidy count w (omega arith) (omega arith) d (count % block_words) (omega arith) full
      (palette_words blocks count ++ w ∷ []) (rw long at (changed_add (palette_words blocks count) w))

  pub add_took : (d c : Block) → count < most_words → count / block_words < length blocks → Put (get_or blocks (count / block_words) d) c (count % block_words) (count % block_words) w → Took blocks (set blocks (count / block_words) c) (count + 1) (palette_words blocks count ++ w ∷ [])
  add_took d c few room put =
      let long = words_long blocks count (omega arith) in
      let more = length_push (palette_words blocks count) w in
      took blocks count fits tidy count w (omega arith) (omega arith) d (count % block_words) (omega arith) c put
      (palette_words blocks count ++ w ∷ []) (count + 1) (rw long at (changed_add (palette_words blocks count) w)) (omega arith) (omega arith)

  pub change_none : (n : ℕ) (d : Block) (used : ℕ) → n < count → used ≡ used_at count n → Full (get_or blocks (n / block_words) d) used (n % block_words) w → can_change (palette_admits (length blocks)) (palette_words blocks count) n w ≡ false
  change_none n d used low is-used full =
      let long = words_long blocks count (omega arith) in
      and_right _ _
      (took_none blocks count fits tidy n w (omega arith) (omega arith) d used is-used full
      (set (palette_words blocks count) n w) (changed_set (palette_words blocks count) n w (omega arith)))

  pub change_took : (n : ℕ) (d c : Block) (used : ℕ) → n < count → used ≡ used_at count n → Put (get_or blocks (n / block_words) d) c used (n % block_words) w → Took blocks (set blocks (n / block_words) c) count (set (palette_words blocks count) n w)
  change_took n d c used low is-used put =
      let long = words_long blocks count (omega arith) in
      let same = length-set (palette_words blocks count) n w in
      took blocks count fits tidy n w (omega arith) (omega arith) d used is-used c put
      (set (palette_words blocks count) n w) count (changed_set (palette_words blocks count) n w (omega arith)) (omega arith) (omega arith)

  -- what a store answers and has, after word n was offered another word
  pub change_offered : (n : ℕ) (d c : Block) (used : ℕ) (r : Result (Unit {0}) Refusal) → n < count → used ≡ used_at count n → OnOk r (Put (get_or blocks (n / block_words) d) c used (n % block_words) w) → OnErr r (Full (get_or blocks (n / block_words) d) used (n % block_words) w) → OnErr r (c ≡ get_or blocks (n / block_words) d) → IsOkUnless r StoreFull → Offered blocks (set blocks (n / block_words) c) count (set (palette_words blocks count) n w) r (can_change (palette_admits (length blocks)) (palette_words blocks count) n w)
  change_offered n d c used (Ok tt) low is-used put full kept refusal =
      let long = words_long blocks count (omega arith) in
      let took = change_took n d c used low is-used put in
      let accepted : can_change (palette_admits (length blocks)) (palette_words blocks count) n w ≡ true
      = and_from _ _ (lt-ltb n (length (palette_words blocks count)) (omega arith)) took.accepted in
      record {
        answer = rw accepted refl;
        words = rw accepted took.words;
        fits = took.fits;
        held = took.held;
        tidy = took.tidy;
      }
  change_offered n d c used (Err e) low is-used put full kept refusal =
      let none = change_none n d used low is-used full in
      let same : set blocks (n / block_words) c ≡ blocks = ap (set blocks (n / block_words)) kept ∙ set-get_or blocks (n / block_words) d in
      let P : List Block → Type 0 = λ later. Offered blocks later count (set (palette_words blocks count) n w) (Err e) (can_change (palette_admits (length blocks)) (palette_words blocks count) n w) in
      subst P (sym same) (record {
        answer = rw (none, refusal) refl;
        words = rw none refl;
        fits = fits;
        held = palette_held blocks count (omega arith) (omega arith);
        tidy = tidy;
      })

  -- a word that is not there cannot be changed
  pub no_word : (n : ℕ) → count ≤ n → can_change (palette_admits (length blocks)) (palette_words blocks count) n w ≡ false
  no_word n past =
      let long = words_long blocks count (omega arith) in and_left _ _ (le-ltb n (length (palette_words blocks count)) (omega arith))

  -- a word that is there and whose change is admitted can be changed
  pub can_change_lem : (n : ℕ) → n < count → palette_admits (length blocks) (set (palette_words blocks count) n w) ≡ true → can_change (palette_admits (length blocks)) (palette_words blocks count) n w ≡ true
  can_change_lem n low admitted =
      let long = words_long blocks count (omega arith) in and_from _ _ (lt-ltb n (length (palette_words blocks count)) (omega arith)) admitted
