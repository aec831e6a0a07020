use Rattle.std.proofs.Common.{◌≡◌, ◌++◌, map, drop}
use Rattle.htl_names.proofs.Words.{mode_of, flat_map_at, mode_refinement}
use Rattle.htl_names.proofs.programs.push_module_refinements.Given as goal

abbrev pub invariant-loop-k : goal.invariant-loop-k
invariant-loop-k l =
    l.into.items ++ flat_map_at (mode_refinement l.symbols l.program l.«module») l.k (map mode_of (drop l.k l.modes))
    ≡ l.initial.into.items ++ flat_map_at (mode_refinement l.symbols l.program l.«module») 0 (map mode_of l.modes)
