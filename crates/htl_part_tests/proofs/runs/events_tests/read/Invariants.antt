use Rattle.std.proofs.Common.{◌≡◌, ◌-◌, true}
use Rattle.htl_script.specs.Orders.{IsIndex}
use Rattle.htl_part_tests.proofs.runs.events_tests.read.Given as goal

abbrev pub invariant-events : goal.invariant-events
invariant-events l = l.script.ready ≡ true → IsIndex l.fn.t l.script.index

abbrev pub decreases-events : goal.decreases-events
decreases-events l = 1073741826 - l.script.stream.here.number
