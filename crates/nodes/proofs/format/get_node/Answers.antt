use Rattle.std.proofs.Common.{sym, ap, ◌∙◌, subst}
use Rattle.std.proofs.lemmas.List.{map-id}
use Rattle.nodes.specs.Format.{Fitting, written}
use Rattle.nodes.proofs.Numbers.{all_bytes}
use Rattle.nodes.proofs.Written.{node_read, read_fits, written_read}
use Rattle.nodes.proofs.format.get_node.Goals as goal

pub returns : goal.returns
returns c =
    let e = node_read c.args.bytes.now c.fields.result c.fields-2.result (sym (map-id c.fields.result) ∙ c.fields.ensures) (sym (map-id c.fields-2.result) ∙ c.fields-2.ensures) in
    let each = all_bytes c.args.bytes.now c.type_inv.bytes in
    record {
      value = e;
      fitting = subst Fitting (sym e) (read_fits c.args.bytes.now c.requires each);
      back = ap written e ∙ written_read c.args.bytes.now c.requires each;
    }
