-- Worked cases of tags and stores, each of which computes.
use Rattle.std.specs.Prelude.{◌≡◌, ℕ, zero, suc, true, false, List, [], ◌∷◌}
use Rattle.tags.specs.Loads.{load_word}
use Rattle.tags.specs.Stores.{can_add, can_change}
use Rattle.tags.specs.Palettes.{palette_admits}

-- the words n - 1 down to 0, all different
abbrev pub different_words : ℕ → List ℕ
different_words zero = []
different_words (suc n) = n ∷ different_words n

-- load 6,300 in zone 255 has word 2,095,260
abbrev pub TopLoadWord : Type 0
TopLoadWord = load_word 6300 255 ≡ 2095260

-- sixteen different words in a block: a seventeenth is refused
abbrev pub SeventeenthRefused : Type 0
SeventeenthRefused = can_add (palette_admits 1) (different_words 16) 16 ≡ false

-- sixteen different words in a block: changing a word that occurs once to a seventeenth is accepted
abbrev pub SingleChanged : Type 0
SingleChanged = can_change (palette_admits 1) (different_words 16) 5 16 ≡ true

-- sixteen different words and one of them twice: changing that one to a seventeenth is refused
abbrev pub DoubleKept : Type 0
DoubleKept = can_change (palette_admits 1) (3 ∷ different_words 16) 0 16 ≡ false
