use Rattle.std.proofs.Common.{◌≡◌, ◌≤◌, None, map, drop}
use Rattle.htl_model.specs.Frames.{multiple_of, too_long, unit_period}
use Rattle.htl_model.proofs.starts.hyperperiod.Given as goal

abbrev pub invariant-loop-k : goal.invariant-loop-k
invariant-loop-k l = record {
  multiple : multiple_of l.multiple (map (unit_period l.t) (drop l.k l.roots)) ≡ multiple_of 1 (map (unit_period l.t) l.roots);
  long : too_long l.t l.multiple (drop l.k l.roots) ≡ None;
  small : l.multiple ≤ 1000000;
}
