use Rattle.std.proofs.Common.{◌≡◌, ◌++◌, drop, map}
use Rattle.htl_names.proofs.Words.{fun_of, task_of, task_item, task_functions, flat_map_at}
use Rattle.htl_names.proofs.items.put_tasks.Given as goal

abbrev pub invariant-loop-k : goal.invariant-loop-k
invariant-loop-k l =
    record {
      items : l.into.items ++ map (task_item l.number) (map task_of (drop l.k l.nodes)) ≡ l.initial.into.items ++ map (task_item l.number) (map task_of l.nodes);
      functions : map fun_of l.functions.items ++ flat_map_at (task_functions l.source.layout.now l.at.program l.at.«module») l.k (map task_of (drop l.k l.nodes))
          ≡ map fun_of l.initial.functions.items ++ flat_map_at (task_functions l.source.layout.now l.at.program l.at.«module») 0 (map task_of l.nodes);
    }
