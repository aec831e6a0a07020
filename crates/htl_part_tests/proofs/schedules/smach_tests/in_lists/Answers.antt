use Rattle.htl_part_tests.proofs.schedules.smach_tests.in_lists.Goals as goal

pub leave_all-requires-2-clause-stands : goal.leave_all-requires-2-clause-stands
leave_all-requires-2-clause-stands c = c.go_on.ensures.stands c.if-not-go_on.false c.in-Some-2.t.instrs
