use Rattle.std.proofs.Common.{◌≡◌, ◌++◌, drop, length, map, flat_map}
use Rattle.htl_names.proofs.Words.{fun_of, tree_of, ports_before, mode_port_items, port_items, mode_invoke_items, invoke_items, mode_switch_items, switch_items, mode_functions, flat_map_at}
use Rattle.htl_names.proofs.tables.by_mode.Given as goal

abbrev pub invariant-loop-k : goal.invariant-loop-k
invariant-loop-k l =
    let layout = l.source.layout.now in
    let ps = tree_of l.source.tree.now in
    let rest = drop l.k l.modes in
    record {
      first : length l.made.ports.items ≡ ports_before layout ps l.k;
      ports : l.made.ports.items ++ flat_map_at (mode_port_items ps) l.k rest ≡ port_items layout ps;
      invs : l.made.invs.items ++ flat_map_at (mode_invoke_items layout ps) l.k rest ≡ invoke_items layout ps;
      switches : l.made.switches.items ++ flat_map_at (mode_switch_items layout ps) l.k rest ≡ switch_items layout ps;
      functions : map fun_of l.made.functions.items ++ flat_map (mode_functions layout ps) rest ≡ map fun_of l.fn.functions.items ++ flat_map (mode_functions layout ps) l.modes;
    }
