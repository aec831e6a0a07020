use Rattle.std.proofs.Common.{◌≡◌}
use Rattle.htl_load.proofs.Words.{count_before, FitBetween}
use Rattle.htl_load.proofs.functions.first_unfit_task.Given as goal

abbrev pub invariant-loop-k : goal.invariant-loop-k
invariant-loop-k l =
    record {
      id : l.id ≡ count_before l.k l.t.tasks;
      fit : FitBetween l.t 0 l.id;
    }
