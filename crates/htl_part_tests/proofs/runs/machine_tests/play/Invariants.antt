use Rattle.std.proofs.Common.{◌≡◌, take}
use Rattle.htl_machine.specs.Calls.{Follows}
use Rattle.htl_part_tests.proofs.runs.machine_tests.play.Given as goal

abbrev pub invariant-loop-k : goal.invariant-loop-k
invariant-loop-k l = record {
  follows : Follows l.m (take l.k l.events);
  tables : l.m.object.tables ≡ l.t;
}
