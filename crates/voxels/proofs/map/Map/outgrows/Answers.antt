use Rattle.std.proofs.Common.{◌*◌, ◌≤◌, mul-le-mul, arith}
use Rattle.voxels.proofs.map.Map.outgrows.Goals as goal

pub overflow_mul-words : goal.overflow_mul-words
overflow_mul-words g c =
    let store = c.args.self.now.store in
    let most = g.S.TagStore.laws.most store (g.S.TagStore.words store) (g.S.TagStore.laws.held store) in
    let wide = g.met.K.TagKind.bytes in
    let w : c.written_width.result ≤ 4 = omega (arith, c.written_width.ensures, wide.1) in
    let n : c.count.result ≤ 16777216 = omega (arith, c.count.ensures, most) in
    let h : c.written_width.result * c.count.result ≤ 4 * 16777216 = mul-le-mul w n in
    omega arith
