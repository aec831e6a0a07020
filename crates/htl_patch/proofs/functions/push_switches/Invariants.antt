use Rattle.std.proofs.Common.{◌≡◌, ◌++◌, map, take}
use Rattle.htl_patch.proofs.Words.{fun_of, function_of_switch, combined}
use Rattle.htl_patch.proofs.functions.push_switches.Given as goal

abbrev pub invariant-loop-k : goal.invariant-loop-k
invariant-loop-k l =
    let g = l.g in
    map fun_of l.into.items ≡ map fun_of l.initial.into.items ++ map (function_of_switch (combined g)) (take l.k l.keys)
