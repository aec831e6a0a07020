use Rattle.std.proofs.Common.{◌≤◌, ◌-◌, length}
use Rattle.htl_machine.proofs.Waits.{AreTaking}
use Rattle.htl_machine.proofs.sensors.Sensors.show.Given as goal

abbrev pub invariant-loop-c : goal.invariant-loop-c
invariant-loop-c l = AreTaking l.t l.initial.noted.values l.at l.initial.self l.self l.initial.world l.world l.initial.noted l.noted l.c × (l.c ≤ length l.t.comms)

abbrev pub decreases-loop-c : goal.decreases-loop-c
decreases-loop-c l = length l.t.comms - l.c
