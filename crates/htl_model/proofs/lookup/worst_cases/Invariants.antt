use Rattle.std.proofs.Common.{◌≡◌, map, take}
use Rattle.htl_model.proofs.Words.{Inv, task_worst}
use Rattle.htl_model.proofs.lookup.worst_cases.Given as goal

abbrev pub invariant-loop-k : goal.invariant-loop-k
invariant-loop-k l = l.worst.items ≡ map (λ (x : Inv). task_worst l.t x.task) (take l.k l.invs)
