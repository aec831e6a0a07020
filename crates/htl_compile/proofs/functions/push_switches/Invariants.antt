use Rattle.std.proofs.Common.{◌≡◌, ◌+◌, map}
use Rattle.htl_compile.proofs.Words.{code_at, TypedBetween, list_to, fun_of}
use Rattle.htl_compile.proofs.functions.push_switches.Given as goal

abbrev pub invariant-loop-k : goal.invariant-loop-k
invariant-loop-k l =
    record {
      codes : map fun_of l.codes.items ≡ list_to (code_at l.t) (l.first + l.k);
      typed : TypedBetween l.t 0 (l.first + l.k);
    }
