use Rattle.std.proofs.Common.{◌≡◌, ◌++◌, map, take, drop}
use Rattle.htl_model.specs.Tables.{fun_of}
use Rattle.htl_patch.proofs.functions.push_functions.Given as goal

abbrev pub invariant-loop-k : goal.invariant-loop-k
invariant-loop-k l = map fun_of l.into.items ≡ map fun_of l.initial.into.items ++ take l.k (drop l.first l.t.functions)
