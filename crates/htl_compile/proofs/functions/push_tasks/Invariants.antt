use Rattle.std.proofs.Common.{◌≡◌, map}
use Rattle.htl_compile.proofs.Words.{code_at, TypedBetween, list_to, fun_of, count_before}
use Rattle.htl_compile.proofs.functions.push_tasks.Given as goal

abbrev pub invariant-loop-k : goal.invariant-loop-k
invariant-loop-k l =
    record {
      id : l.id ≡ count_before l.k l.t.tasks;
      codes : map fun_of l.codes.items ≡ list_to (code_at l.t) l.id;
      typed : TypedBetween l.t 0 l.id;
    }
