use Rattle.std.proofs.Common.{◌≡◌, ◌≤◌, drop}
use Rattle.htl_model.specs.Frames.{too_long}
use Rattle.htl_model.proofs.frame_limits.too_long.Given as goal

abbrev pub invariant-loop-k : goal.invariant-loop-k
invariant-loop-k l = record {
  long : too_long l.t l.multiple (drop l.k l.roots) ≡ too_long l.t 1 l.roots;
  small : l.multiple ≤ 1000000;
}
