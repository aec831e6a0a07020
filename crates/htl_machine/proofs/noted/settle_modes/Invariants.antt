use Rattle.std.proofs.Common.{◌≤◌, ◌-◌, None}
use Rattle.htl_machine.proofs.Settling.{IsSettling}
use Rattle.htl_machine.proofs.noted.settle_modes.Given as goal

abbrev pub invariant-loop-k : goal.invariant-loop-k
invariant-loop-k l = IsSettling None l.decided l.modes l.m.calendar.modes l.k × (l.k ≤ 1024)

abbrev pub decreases-loop-k : goal.decreases-loop-k
decreases-loop-k l = 1024 - l.k
