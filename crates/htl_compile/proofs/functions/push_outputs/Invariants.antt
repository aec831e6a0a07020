use Rattle.std.proofs.Common.{◌≡◌, ◌+◌, map}
use Rattle.htl_compile.proofs.Words.{code_at, TypedBetween, list_to, fun_of}
use Rattle.htl_compile.proofs.functions.push_outputs.Given as goal

abbrev pub invariant-loop-j : goal.invariant-loop-j
invariant-loop-j l =
    record {
      codes : map fun_of l.codes.items ≡ list_to (code_at l.t) (l.first + l.j);
      typed : TypedBetween l.t l.first (l.first + l.j);
    }
