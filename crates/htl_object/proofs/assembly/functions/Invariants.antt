use Rattle.std.proofs.Common.{◌≡◌, ◌++◌, map}
use Rattle.htl_object.proofs.Words.{Compiled, fun_of, Code}
use Rattle.htl_object.proofs.assembly.functions.Given as goal

abbrev pub invariant-loop-code : goal.invariant-loop-code
invariant-loop-code l = map fun_of l.found.items ++ map (λ (c : Code). Compiled c) l.code-iterator.rest.items ≡ map (λ (c : Code). Compiled c) l.fn.codes.items
