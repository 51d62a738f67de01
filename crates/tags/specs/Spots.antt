-- Where a block has room for a word.
use Rattle.std.specs.Prelude.{◌≡◌, ℕ, zero, suc, ◌<◌, ◌≤◌, Bool, true, false, not, Option, MatchOption, ◌&&◌, ◌||◌, List, ◌==◌, ◌≢◌, slice_index, slice_set}
use Rattle.tags.specs.declared.palette.block.Block.{Block}
use Rattle.tags.specs.Palettes.{palette_places, is_in}
use Rattle.tags.specs.Blocks.{place_of}

-- whether one of the first indices, other than index i, names place p
abbrev pub taken : List ℕ → ℕ → ℕ → ℕ → Bool
taken indices i p zero = false
taken indices i p (suc used) = (not (used == i) && place_of (slice_index indices used) == p) || taken indices i p used

-- a place that no other index names, or absent where other indices name them all
abbrev pub FreePlace : List ℕ → ℕ → ℕ → Option ℕ → Type 0
FreePlace indices i used r =
    MatchOption r ((p : ℕ) → p < palette_places → taken indices i p used ≡ true) (λ p. (p < palette_places) × (taken indices i p used ≡ false))

-- place p can take word w for index i: it has the word, and no lower place has; or no place has, and no other index names p
pub record Spot (b : Block) (used i w p : ℕ) : Type 0 where
  pub place : p < palette_places
  pub free : (slice_index b.palette p ≢ w) → taken b.indices i p used ≡ false
  pub new : (slice_index b.palette p ≢ w) → is_in w b.palette ≡ false
  pub lowest : (q : ℕ) → q < palette_places → slice_index b.palette q ≡ w → p ≤ q

-- no place can: none has the word, and other indices name them all
pub record Full (b : Block) (used i w : ℕ) : Type 0 where
  pub missing : is_in w b.palette ≡ false
  pub named : (p : ℕ) → p < palette_places → taken b.indices i p used ≡ true

-- block c is block b with word w put at index i, in a place that can take it
pub record Put (b c : Block) (used i w : ℕ) : Type 0 where
  pub at : ℕ
  pub spot : Spot b used i w at
  pub palette : c.palette ≡ slice_set b.palette at w
  pub indices : c.indices ≡ slice_set b.indices i at
