use Rattle.std.proofs.Common.{ℕ, ◌<◌, get_or}
use Rattle.htl_walk.specs.{declared.job.Job.Job, WellFormed.IsWellFormed}
use Rattle.htl_part_tests.proofs.schedules.edf_tests.are_well_formed.Given as goal

abbrev pub invariant-loop-k : goal.invariant-loop-k
invariant-loop-k l = (i : ℕ) (d : Job) → i < l.k → IsWellFormed (get_or l.jobs i d)
