use Rattle.std.proofs.Common.{◌≡◌, ℕ, ◌+◌, ◌≤◌, ◌<◌}
use Rattle.htl_walk.specs.Walk.{job_at}
use Rattle.htl_smach.specs.{declared.state.PosState.TheVariants.Pending, Rounds.Stands, Rounds.state_of}
use Rattle.htl_part_tests.proofs.schedules.smach_tests.tell.Given as goal

abbrev pub invariant-loop-p : goal.invariant-loop-p
invariant-loop-p l =
    (l.m.jobs ≡ l.jobs) × (l.m.start ≡ 100) × (l.m.running ≡ l.initial.m.running) × Stands l.m l.s.instrs
    × ((q : ℕ) → q < l.p → state_of l.m q ≡ Pending → l.until ≤ 100 + (job_at l.jobs q).release)
