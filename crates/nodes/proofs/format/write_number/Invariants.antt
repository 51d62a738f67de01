use Rattle.std.proofs.Common.{◌≡◌, ◌-◌, ◌++◌, length, take}
use Rattle.nodes.specs.Format.{bytes_of}
use Rattle.nodes.proofs.format.write_number.Given as goal

-- the bytes so far, and those of what is left, are the number's
abbrev pub invariant-loop-byte : goal.invariant-loop-byte
invariant-loop-byte l = take l.byte-index l.bytes ++ bytes_of (length l.initial.bytes - l.byte-index) l.rest ≡ bytes_of (length l.initial.bytes) l.number
