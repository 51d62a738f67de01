use Rattle.std.proofs.Common.{◌≡◌, ◌^◌, ◌<◌, drop}
use Rattle.std.specs.Str.Parse.{digits_value, digits_value_after}
use Rattle.std.specs.Str.{all_ascii_digits}
use Rattle.text.proofs.number.numeral.Given as goal

-- what is left decides whether all are digits, and goes on from the value so far
abbrev pub invariant-loop-byte : goal.invariant-loop-byte
invariant-loop-byte l =
    (all_ascii_digits (drop l.byte-index l.bytes) ≡ all_ascii_digits l.bytes)
    × (digits_value_after 10 l.value (drop l.byte-index l.bytes) ≡ digits_value 10 l.bytes)
    × (l.value < 10 ^ l.byte-index)
