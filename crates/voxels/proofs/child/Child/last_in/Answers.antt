use Rattle.std.proofs.Common.{◌≡◌, suc, ◌+◌, ◌-◌, ◌^◌, ◌<◌, ◌≤◌, subst, arith}
use lib.Count.{count_leading_zeros, leading_top}
use Rattle.voxels.proofs.child.Child.last_in.Goals as goal

pub returns : goal.returns
returns c =
    let top = leading_top 8 c.args.mask c.requires (omega arith) in
    let sum = top.1 in
    let e : top.0 ≡ 7 - count_leading_zeros 8 c.args.mask = omega arith in
    let f : suc top.0 ≡ 7 - count_leading_zeros 8 c.args.mask + 1 = omega arith in
    (subst (λ j. 2 ^ j ≤ c.args.mask) e top.2, subst (λ j. c.args.mask < 2 ^ j) f top.3)
