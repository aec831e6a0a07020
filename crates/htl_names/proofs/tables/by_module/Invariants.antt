use Rattle.std.proofs.Common.{◌≡◌, ◌++◌, drop, length, map, flat_map}
use Rattle.htl_names.proofs.Words.{fun_of, tree_of, modes_before, module_mode_items, mode_items, module_items_at, module_items, module_task_items, task_items, module_functions, flat_map_at}
use Rattle.htl_names.proofs.tables.by_module.Given as goal

abbrev pub invariant-loop-k : goal.invariant-loop-k
invariant-loop-k l =
    let layout = l.source.layout.now in
    let ps = tree_of l.source.tree.now in
    let rest = drop l.k l.modules in
    record {
      first : length l.made.modes.items ≡ modes_before layout ps l.k;
      modes : l.made.modes.items ++ flat_map_at (module_mode_items ps) l.k rest ≡ mode_items layout ps;
      modules : l.made.modules.items ++ flat_map_at (module_items_at layout ps) l.k rest ≡ module_items layout ps;
      tasks : l.made.tasks.items ++ flat_map_at (module_task_items ps) l.k rest ≡ task_items layout ps;
      functions : map fun_of l.made.functions.items ++ flat_map (module_functions layout ps) rest ≡ flat_map (module_functions layout ps) layout.modules;
    }
