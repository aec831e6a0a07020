use Rattle.std.proofs.Common.{ℕ, ◌<◌, ◌≤◌, get_or}
use Rattle.htl_walk.specs.declared.job.Job.{Job}
use Rattle.htl_part_tests.proofs.schedules.edf_tests.end_within.Given as goal

abbrev pub invariant-loop-k : goal.invariant-loop-k
invariant-loop-k l = (i : ℕ) (d : Job) → i < l.k → (get_or l.jobs i d).end ≤ l.period
