use Rattle.std.proofs.Common.{◌≡◌, suc, ◌+◌, ◌-◌, true, sym, refl, ap, ◌∙◌, subst, arith}
use Rattle.cells.specs.Boxes.{box_holds}
use Rattle.voxels.specs.Visiting.{shrunk_box}
use Rattle.voxels.proofs.Descent.{near_met, child_beside, child_free, child_visits}
use Rattle.voxels.proofs.visit.child_visit.Goals as goal

pub returns-then-not-meets : goal.returns-then-not-meets
returns-then-not-meets g c =
    let ns = g.P.NodePool.nodes c.args.pool.now in
    let k : c.args.visit.level ≡ suc (c.args.visit.level - 1) = omega (arith, c.requires.above) in
    record {
      ready = tt;
      visits = λ L s v. child_beside L ns c.args.bounds.now s c.args.child.i (c.args.visit.level - 1) c.args.visit c.args.child.below k v
          (ap (box_holds (shrunk_box (c.args.visit.level - 1) c.args.bounds.now)) (sym c.child_place-at.ensures) ∙ sym c.meets.ensures ∙ c.if-not-meets.true);
    }

pub returns-in_err-taken : goal.returns-in_err-taken
returns-in_err-taken g c =
    let ns = g.P.NodePool.nodes c.args.pool.now in
    let k : c.args.visit.level ≡ suc (c.args.visit.level - 1) = omega (arith, c.requires.above) in
    rw c.from_residual.ensures
    record {
      ready = tt;
      visits = λ L s v. child_free L ns c.args.bounds.now s c.args.child.i (c.args.visit.level - 1) c.args.visit c.args.child.below k v c.in_err-taken.ensures;
    }

pub returns : goal.returns
returns g c =
    let ns = g.P.NodePool.nodes c.args.pool.now in
    let k : c.args.visit.level ≡ suc (c.args.visit.level - 1) = omega (arith, c.requires.above) in
    let goes = c.in_ok-taken.ensures in
    let met : box_holds (shrunk_box (c.args.visit.level - 1) c.args.bounds.now) c.child_place-at.result ≡ true = sym c.meets.ensures ∙ c.if-not-meets.false in
    record {
      ready = (record { level = omega (arith, c.requires.ready.level); node = goes.inside; rank = omega (arith, c.requires.ready.rank, goes.small, c.from.ensures); near = near_met (c.args.visit.level - 1) c.args.bounds.now c.child_place-at.result c.requires.near met }, omega (arith, c.requires.above));
      visits = λ L s v. child_visits L ns c.args.bounds.now s c.args.child.i (c.args.visit.level - 1) c.args.visit c.args.child.below k v _ refl c.child_place-at.ensures
          (subst (λ p. box_holds (shrunk_box (c.args.visit.level - 1) c.args.bounds.now) p ≡ true) c.child_place-at.ensures met)
          c.in_ok-taken.taken.offset (ap (λ n. c.args.visit.rank + n) c.from.ensures) goes;
    }
