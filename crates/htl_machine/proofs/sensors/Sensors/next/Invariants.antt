use Rattle.std.proofs.Common.{◌≤◌, ◌-◌, length}
use Rattle.htl_runs.specs.values.ShownValues.{ShowsNothing}
use Rattle.htl_machine.proofs.sensors.Sensors.next.Given as goal

abbrev pub invariant-loop-c : goal.invariant-loop-c
invariant-loop-c l = record {
  nothing : ShowsNothing l.t l.self.shows l.world.values l.c l.from l.least;
  low : l.from ≤ l.least;
  high : l.least ≤ l.to;
  within : l.c ≤ length l.t.comms;
}

abbrev pub decreases-loop-c : goal.decreases-loop-c
decreases-loop-c l = length l.t.comms - l.c
