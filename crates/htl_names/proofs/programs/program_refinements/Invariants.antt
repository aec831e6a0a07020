use Rattle.std.proofs.Common.{◌≡◌, ◌++◌, map, drop}
use Rattle.htl_names.proofs.Words.{module_of, flat_map_at, module_refinements}
use Rattle.htl_names.proofs.programs.program_refinements.Given as goal

abbrev pub invariant-loop-k : goal.invariant-loop-k
invariant-loop-k l =
    l.row.items ++ flat_map_at (module_refinements l.symbols l.program) l.k (map module_of (drop l.k l.modules))
    ≡ flat_map_at (module_refinements l.symbols l.program) 0 (map module_of l.modules)
