-- Speed limits.
use Rattle.std.specs.Prelude.{ℕ, Bool, Some, Option, nat_le}
use Rattle.std.proofs.Math.Decide.{dec_le}
use Rattle.tags.specs.declared.speed.Speed.{Speed}
use Rattle.tags.specs.Bounds.{top_speed}
use Rattle.tags.specs.Making.{only_if}

-- the limit of a tag, which is its word
abbrev pub limit_of : Speed → ℕ
limit_of t = t.limit

-- the tag with this limit: absent above the highest limit
abbrev pub speed_of : ℕ → Option Speed
speed_of limit = only_if (dec_le limit top_speed) (λ low. Some (record { limit = limit; low = low }))

-- the smaller limit is the stricter tag
abbrev pub slower : Speed → Speed → Bool
slower a b = nat_le a.limit b.limit
