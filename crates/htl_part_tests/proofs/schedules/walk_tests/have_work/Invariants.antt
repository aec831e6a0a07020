use Rattle.std.proofs.Common.{ℕ, ◌<◌, get_or}
use Rattle.htl_walk.specs.{declared.job.Job.Job, Refinement.HasWork}
use Rattle.htl_part_tests.proofs.schedules.walk_tests.have_work.Given as goal

abbrev pub invariant-loop-k : goal.invariant-loop-k
invariant-loop-k l = (i : ℕ) (d : Job) → i < l.k → HasWork (get_or l.jobs i d)
