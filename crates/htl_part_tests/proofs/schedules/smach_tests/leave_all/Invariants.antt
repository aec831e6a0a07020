use Rattle.std.proofs.Common.{◌≡◌}
use Rattle.htl_smach.specs.Rounds.{Stands}
use Rattle.htl_part_tests.proofs.schedules.smach_tests.leave_all.Given as goal

abbrev pub invariant-answers : goal.invariant-answers
invariant-answers l = (l.m.jobs ≡ l.jobs) × (l.m.start ≡ 100) × Stands l.m l.s.instrs
