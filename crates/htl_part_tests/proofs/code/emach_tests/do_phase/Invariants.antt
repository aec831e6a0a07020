use Rattle.htl_part_tests.specs.Running.{CanRun}
use Rattle.htl_part_tests.proofs.code.emach_tests.do_phase.Given as goal

abbrev pub invariant-loop : goal.invariant-loop
invariant-loop l = CanRun l.t l.code l.m l.world
