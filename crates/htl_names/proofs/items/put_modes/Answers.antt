use Rattle.htl_names.proofs.Words.{YieldsList-from_map, YieldsList-from_slice, YieldsList-at, items_from_extend, map-map, mode_of, ModeNode, mode_item, rules}
use Rattle.htl_names.proofs.items.put_modes.Goals as goal

pub returns : goal.returns
returns c =
    let nodes = YieldsList-at c.map-modes.ensures.source (YieldsList-from_slice c.args.nodes.now cc) in
    let h = items_from_extend c.extend.result c.extend.ensures.ran (YieldsList-from_map _ (λ (x : ModeNode). mode_item c.args.number (mode_of x)) nodes c.map-modes.ensures.closure (λ x r q k. search rules)) in
    search (rules, map-map)
