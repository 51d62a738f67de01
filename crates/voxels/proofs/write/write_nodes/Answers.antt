use Rattle.std.proofs.Common.{◌≡◌, ◌+◌, ◌-◌, ◌*◌, ◌<◌, length, get_or, take, sym, refl, ap, ◌∙◌, subst, arith, rules}
use Rattle.std.specs.List.{AllByRecursion}
use Rattle.std.proofs.lemmas.List.{take_more, take_all}
use Rattle.std.proofs.ByRecursion.{All-push}
use Rattle.nodes.specs.Records.{blank}
use Rattle.nodes.specs.Format.{node_bytes, read_node, read_nodes, written}
use Rattle.voxels.proofs.Writing.{Back, front_more, front_all, nodes_back}
use Rattle.voxels.proofs.write.write_nodes.Goals as goal

pub loop-n-preserved : goal.loop-n-preserved
loop-n-preserved g c =
    let ns = g.P.NodePool.nodes c.args.pool.now in
    let n = c.loop-n.n in
    let lt : n < length ns = omega (arith, c.count-n-end.ensures) in
    let node = c.read.ensures in
    let long : length c.to_bytes-bytes.result ≡ 50 = search rules in
    let value = c.to_bytes-bytes.ensures.value in
    let part : c.copy_from_slice.new.self ≡ written (get_or ns n blank) = c.copy_from_slice.ensures.after ∙ value ∙ ap written node in
    let size : length c.copy_from_slice.new.self ≡ 50 = ap length c.copy_from_slice.ensures.after ∙ long in (
      front_more written node_bytes ns c.args.buffer.now n (50 * n) (50 * n + 50 - 50 * n) c.loop-n.buffer c.copy_from_slice.new.self blank lt refl (omega arith) (omega arith) part size c.loop-n.invariant.0,
      subst (AllByRecursion Back) (sym (take_more ns n blank lt))
          (All-push Back (take n ns) (get_or ns n blank) c.loop-n.invariant.1 (ap length (sym part) ∙ size, subst (λ x. read_node (written x) ≡ x) node (ap read_node (sym value) ∙ c.to_bytes-bytes.ensures.back))),
    )

pub returns : goal.returns
returns g c =
    let ns = g.P.NodePool.nodes c.args.pool.now in
    let e : c.loop-n.n ≡ length ns = omega (arith, c.count-n-end.ensures) in
    let bytes = front_all written node_bytes ns c.args.buffer.now c.loop-n.n c.loop-n.buffer e c.loop-n.invariant.0 in
    record {
      bytes = bytes;
      back = ap (read_nodes (length ns)) bytes ∙ nodes_back ns _ (subst (AllByRecursion Back) (take_all c.loop-n.n ns (omega arith)) c.loop-n.invariant.1);
    }
