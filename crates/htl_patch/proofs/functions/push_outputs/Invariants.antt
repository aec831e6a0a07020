use Rattle.std.proofs.Common.{◌≡◌, ◌++◌, map, take}
use Rattle.htl_patch.proofs.Words.{flat_map, fun_of, functions_of, combined}
use Rattle.htl_patch.proofs.functions.push_outputs.Given as goal

abbrev pub invariant-loop-k : goal.invariant-loop-k
invariant-loop-k l =
    let g = l.g in
    map fun_of l.into.items ≡ map fun_of l.initial.into.items ++ flat_map (functions_of (combined g)) (take l.k l.keys)
