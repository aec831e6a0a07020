use Rattle.htl_names.proofs.Words.{YieldsList-from_map, YieldsList-from_slice, YieldsList-at, items_from_extend, port_item, rules}
use Rattle.htl_names.proofs.items.put_ports.Goals as goal

pub returns : goal.returns
returns c =
    let nodes = YieldsList-at c.map-ports.ensures.source (YieldsList-from_slice c.args.nodes.now cc) in
    let h = items_from_extend c.extend.result c.extend.ensures.ran (YieldsList-from_map _ (port_item c.args.number) nodes c.map-ports.ensures.closure (λ x r q k. search rules)) in
    search (rules)
