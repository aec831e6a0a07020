use Rattle.std.proofs.Common.{◌≡◌, ◌≤◌, ◌+◌, ◌*◌, drop, sum}
use Rattle.htl_times.proofs.Words.{worst_cases}
use Rattle.htl_times.proofs.path_walk.sum_worst.Given as goal

abbrev pub invariant-loop-k : goal.invariant-loop-k
invariant-loop-k l = record {
  rest : l.ticks + sum (worst_cases (drop l.k l.jobs)) ≡ sum (worst_cases l.jobs);
  small : l.ticks ≤ 1000000 * l.k;
}
