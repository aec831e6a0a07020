use Rattle.std.proofs.Common.{◌≡◌, ◌≤◌, ◌-◌}
use Rattle.htl_edf.proofs.turns.Turns.wake.Given as goal

abbrev pub invariant-loop-q : goal.invariant-loop-q
invariant-loop-q l = record { within : l.q ≤ l.count; same : l.self.waiting ≡ l.fn.self.waiting }

abbrev pub decreases-loop-q : goal.decreases-loop-q
decreases-loop-q l = l.count - l.q
