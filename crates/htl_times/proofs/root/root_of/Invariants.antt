use Rattle.htl_times.proofs.Rising.{IsOnWay}
use Rattle.htl_times.proofs.root.root_of.Given as goal

abbrev pub invariant-loop-step : goal.invariant-loop-step
invariant-loop-step l = IsOnWay l.t l.fn.inv l.at l.step
