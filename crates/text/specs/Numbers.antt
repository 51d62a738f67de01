-- Decimal numbers.
use Rattle.std.specs.Prelude.{ℕ, cond, ◌&&◌, List, length, Some, None, Option, nat_le}
use Rattle.std.specs.Str.Parse.{digits_value}
use Rattle.std.specs.Str.{all_ascii_digits}

-- the number that a text of 1 to `most` decimal digits writes; any other text is none. Leading zeros are good
abbrev pub number_in : ℕ → List ℕ → Option ℕ
number_in most bs = cond (nat_le 1 (length bs) && nat_le (length bs) most && all_ascii_digits bs) (Some (digits_value 10 bs)) None
