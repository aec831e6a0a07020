use Rattle.std.proofs.Common.{◌≤◌, ◌-◌, pos}
use Rattle.htl_machine.proofs.Settling.{IsSettling}
use Rattle.htl_machine.proofs.noted.settle_values.Given as goal

abbrev pub invariant-loop-c : goal.invariant-loop-c
invariant-loop-c l = IsSettling (pos 0) l.written l.values l.world.values l.c × (l.c ≤ 1024)

abbrev pub decreases-loop-c : goal.decreases-loop-c
decreases-loop-c l = 1024 - l.c
