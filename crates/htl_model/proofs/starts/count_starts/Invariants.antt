use Rattle.std.proofs.Common.{◌≡◌, ◌≤◌, ◌<◌, ◌-◌, map, length, true}
use Rattle.htl_model.specs.Frames.{begins, starts_below, unit_period}
use Rattle.htl_model.proofs.starts.count_starts.Given as goal

abbrev pub invariant-loop-at : goal.invariant-loop-at
invariant-loop-at l = record {
  count : l.n ≡ length (starts_below (map (unit_period l.t) l.roots) l.at);
  few : l.n ≤ l.at;
  within : l.at ≤ l.frame;
  here : l.at < l.frame → begins (map (unit_period l.t) l.roots) l.at ≡ true;
}

abbrev pub decreases-loop-at : goal.decreases-loop-at
decreases-loop-at l = l.frame - l.at
