use Rattle.std.proofs.Common.{ap}
use Rattle.htl_smach.specs.Rounds.{Round}
use Rattle.htl_part_tests.proofs.schedules.smach_tests.begin.Goals as goal

pub returns : goal.returns
returns c = (
  ap (λ (r : Round). r.jobs) c.start.ensures.round,
  ap (λ (r : Round). r.start) c.start.ensures.round,
  c.start.ensures.stands c.args.s.now.instrs,
)
