use Rattle.std.proofs.Common.{◌≡◌}
use Rattle.htl_smach.specs.Rounds.{Stands}
use Rattle.htl_part_tests.proofs.schedules.smach_tests.seen.Given as goal

abbrev pub invariant-loop-k : goal.invariant-loop-k
invariant-loop-k l = (l.m.jobs ≡ l.jobs) × (l.m.start ≡ 100) × Stands l.m l.s.instrs
