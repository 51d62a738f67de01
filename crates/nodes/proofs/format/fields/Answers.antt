use Rattle.std.proofs.Common.{◌∙◌, arith, length-set, rules}
use Rattle.nodes.proofs.Numbers.{reads_more}
use Rattle.nodes.proofs.format.fields.Goals as goal

pub loop-i-preserved : goal.loop-i-preserved
loop-i-preserved g c =
    record {
      eight = length-set c.loop-i.field-items c.loop-i.i _ ∙ c.loop-i.invariant.eight;
      read = reads_more g.F.Field.number g.F.Field.WIDTH c.loop-i.i _ _ c.args.bytes.now c.loop-i.field-items _ (omega (arith, c.loop-i-test.true, c.loop-i.invariant.eight)) (search rules) (omega arith) c.read.ensures c.loop-i.invariant.read;
    }
