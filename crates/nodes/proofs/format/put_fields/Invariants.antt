use Rattle.std.proofs.Common.{◌≡◌, ◌*◌, ◌^◌, ◌<◌, take}
use Rattle.std.specs.List.{flat_map, AllByRecursion}
use Rattle.nodes.specs.Format.{bytes_of}
use Rattle.nodes.proofs.format.put_fields.Given as goal

-- the first i fields are written, and fit
abbrev pub invariant-loop-i : goal.invariant-loop-i
invariant-loop-i g l =
    record {
      bytes : take (g.F.Field.WIDTH * l.i) l.bytes ≡ flat_map (λ field. bytes_of g.F.Field.WIDTH (g.F.Field.number field)) (take l.i l.fields);
      each : AllByRecursion (λ field. g.F.Field.number field < 256 ^ g.F.Field.WIDTH) (take l.i l.fields);
    }
