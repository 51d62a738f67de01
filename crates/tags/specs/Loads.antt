-- Loads in their zones.
use Rattle.std.specs.Prelude.{ℕ, ◌+◌, ◌*◌, ◌/◌, ◌%◌, Bool, ◌&&◌, ◌||◌, Some, Option, ◌==◌, nat_le, nat_lt}
use Rattle.std.proofs.Math.Decide.{dec_le}
use Rattle.tags.specs.declared.load.Load.{Load}
use Rattle.tags.specs.Bounds.{top_load, top_zone, loads_per_zone}
use Rattle.tags.specs.Making.{only_if}

-- a tag's two numbers
abbrev pub zoned_load : Load → ℕ × ℕ
zoned_load t = (t.load, t.zone)

-- the word of a load in a zone
abbrev pub load_word : ℕ → ℕ → ℕ
load_word load zone = zone * loads_per_zone + load

-- the tag of a load in a zone: absent where either is too high
abbrev pub load_at : ℕ → ℕ → Option Load
load_at load zone =
    only_if (dec_le load top_load) (λ light.
    only_if (dec_le zone top_zone) (λ near. Some (record { load = load; zone = zone; light = light; near = near })))

-- the tag that a word reads as, or absent
abbrev pub load_of : ℕ → Option Load
load_of word = load_at (word % loads_per_zone) (word / loads_per_zone)

-- the smaller load is the stricter tag, at equal loads the smaller zone
abbrev pub lighter : Load → Load → Bool
lighter a b = nat_lt a.load b.load || (a.load == b.load && nat_le a.zone b.zone)
