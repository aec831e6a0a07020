use Rattle.std.proofs.Common.{◌≡◌, suc}
use Rattle.htl_model.specs.Frames.{gcd_in}
use Rattle.htl_model.proofs.starts.gcd.Given as goal

abbrev pub invariant-loop-y : goal.invariant-loop-y
invariant-loop-y l = gcd_in (suc l.y) l.x l.y ≡ gcd_in (suc l.b) l.a l.b

abbrev pub decreases-loop-y : goal.decreases-loop-y
decreases-loop-y l = l.y
