use Rattle.std.proofs.Common.{ap, ◌∙◌, rules}
use Rattle.nodes.specs.Format.{Fitting, read_node}
use Rattle.nodes.proofs.Numbers.{all_bytes}
use Rattle.nodes.proofs.Written.{node_put, heads_fit, read_written}
use Rattle.nodes.proofs.format.put_node.Goals as goal

pub returns : goal.returns
returns c =
    let links = c.put_fields.ensures in
    let offsets = c.put_fields-2.ensures in
    let e = node_put c.args.bytes.now c.put_fields.new.bytes c.put_fields-2.new.bytes c.args.node.now (search rules) links.eight offsets.eight (search rules) (search rules) in
    let heads = heads_fit c.args.node.now _ e (all_bytes _ c.type_inv.bytes) in
    let fitting : Fitting c.args.node.now =
    record { level_fits = heads.0; mask_fits = heads.1; eight_links = links.eight; links_fit = links.each; eight_offsets = offsets.eight; offsets_fit = offsets.each } in
    record { bytes = e; fitting = fitting; back = ap read_node e ∙ read_written c.args.node.now fitting }
