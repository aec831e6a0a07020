use Rattle.std.proofs.Common.{◌≡◌, ◌++◌, drop, map}
use Rattle.htl_names.proofs.Words.{fun_of, tree_of, switch_of, switch_item, flat_switch_function}
use Rattle.htl_names.proofs.switches.put_switches.Given as goal

abbrev pub invariant-loop-k : goal.invariant-loop-k
invariant-loop-k l =
    record {
      items : l.into.items ++ map (switch_item l.home.source.layout.now (tree_of l.home.source.tree.now) l.home.number l.home.at) (map switch_of (drop l.k l.nodes))
          ≡ l.initial.into.items ++ map (switch_item l.home.source.layout.now (tree_of l.home.source.tree.now) l.home.number l.home.at) (map switch_of l.nodes);
      functions : map fun_of l.functions.items ++ map (flat_switch_function l.home.source.layout.now) (map switch_of (drop l.k l.nodes))
          ≡ map fun_of l.initial.functions.items ++ map (flat_switch_function l.home.source.layout.now) (map switch_of l.nodes);
    }
