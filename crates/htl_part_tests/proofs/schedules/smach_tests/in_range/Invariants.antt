use Rattle.std.proofs.Common.{ℕ, ◌≤◌, ◌<◌, get_or}
use Rattle.htl_walk.specs.Walk.{job_at}
use Rattle.htl_part_tests.proofs.schedules.smach_tests.in_range.Given as goal

abbrev pub invariant-loop-p : goal.invariant-loop-p
invariant-loop-p l = (q : ℕ) → q < l.p → (1 ≤ get_or l.lengths q 0) × (get_or l.lengths q 0 ≤ (job_at l.jobs q).worst)
