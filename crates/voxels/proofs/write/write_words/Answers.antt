use Rattle.std.proofs.Common.{◌+◌, ◌-◌, ◌*◌, ◌<◌, length, sym, refl, ap, ◌∙◌, subst, arith, rules}
use Rattle.nodes.specs.Format.{bytes_of}
use Rattle.nodes.proofs.LowFirst.{length_bytes_of}
use Rattle.nodes.proofs.Numbers.{part_long}
use Rattle.voxels.proofs.Writing.{Front, front_more, front_all, place_inside, same_word, no_word}
use Rattle.voxels.proofs.write.write_words.Goals as goal
use Rattle.voxels.proofs.write.write_words.Goals.{in-Some, in_default}

pub overflow_mul-at : goal.overflow_mul-at
overflow_mul-at g c = let h = place_inside c.args.width c.loop-n.n (length (g.S.TagStore.words c.args.store.now)) (length c.args.buffer.now) (omega (arith, c.count-n-end.ensures)) c.requires in omega arith

pub overflow_add-at : goal.overflow_add-at
overflow_add-at g c = let h = place_inside c.args.width c.loop-n.n (length (g.S.TagStore.words c.args.store.now)) (length c.args.buffer.now) (omega (arith, c.count-n-end.ensures)) c.requires in omega arith

pub slice_bounds-write_number-end : goal.slice_bounds-write_number-end
slice_bounds-write_number-end g c = let h = place_inside c.args.width c.loop-n.n (length (g.S.TagStore.words c.args.store.now)) (length c.args.buffer.now) (omega (arith, c.count-n-end.ensures)) c.requires in search rules

pub loop-n-preserved : goal.loop-n-preserved
loop-n-preserved g c =
    let ws = g.S.TagStore.words c.args.store.now in
    let w = c.args.width in
    let n = c.loop-n.n in
    let lt : n < length ws = omega (arith, c.count-n-end.ensures) in
    let h = place_inside w n (length ws) (length c.args.buffer.now) lt c.requires in
    elim c.match-word.branch [
      | in-Some x ↦
          let part = x.write_number.ensures ∙ ap (λ k. bytes_of k x.in-Some.word) (part_long c.loop-n.buffer (w * n) (w * n + w - w * n) w (omega arith) (omega arith)) in
          subst (Front (bytes_of w) w (n + 1) ws c.args.buffer.now) (sym x.buffer-is)
          (front_more (bytes_of w) w ws c.args.buffer.now n (w * n) (w * n + w - w * n) c.loop-n.buffer x.write_number.new.bytes 0 lt refl (omega arith) (omega arith)
          (part ∙ ap (bytes_of w) (same_word ws n x.in-Some.word lt (sym c.word.ensures ∙ x.in-Some.is))) (ap length part ∙ length_bytes_of w x.in-Some.word) c.loop-n.invariant)
      | in_default x ↦ absurd (no_word ws n lt (sym c.word.ensures ∙ x.in_default.is))
    ]

pub returns : goal.returns
returns g c =
    let ws = g.S.TagStore.words c.args.store.now in
    front_all (bytes_of c.args.width) c.args.width ws c.args.buffer.now c.loop-n.n c.loop-n.buffer (omega (arith, c.count-n-end.ensures)) c.loop-n.invariant
