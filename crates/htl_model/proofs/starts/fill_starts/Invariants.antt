use Rattle.std.proofs.Common.{◌≡◌, ◌≤◌, ◌<◌, ◌-◌, map, length, take, true}
use Rattle.htl_model.specs.Frames.{begins, starts_below, unit_period}
use Rattle.htl_model.proofs.starts.fill_starts.Given as goal

abbrev pub invariant-loop-at : goal.invariant-loop-at
invariant-loop-at l = record {
  front : take l.n l.out ≡ starts_below (map (unit_period l.t) l.roots) l.at;
  count : l.n ≡ length (starts_below (map (unit_period l.t) l.roots) l.at);
  within : l.at ≤ l.frame;
  here : l.at < l.frame → begins (map (unit_period l.t) l.roots) l.at ≡ true;
  len : length l.out ≡ 33;
}

abbrev pub decreases-loop-at : goal.decreases-loop-at
decreases-loop-at l = l.frame - l.at
