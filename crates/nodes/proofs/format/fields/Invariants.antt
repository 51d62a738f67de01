use Rattle.std.proofs.Common.{◌≡◌, length, map, take}
use Rattle.nodes.specs.Records.{children}
use Rattle.nodes.specs.Format.{values_of}
use Rattle.nodes.proofs.format.fields.Given as goal

-- the first i fields are read
abbrev pub invariant-loop-i : goal.invariant-loop-i
invariant-loop-i g l =
    record {
      eight : length l.field-items ≡ children;
      read : map g.F.Field.number (take l.i l.field-items) ≡ values_of g.F.Field.WIDTH l.i l.bytes;
    }
