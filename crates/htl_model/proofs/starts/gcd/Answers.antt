use Rattle.std.proofs.Common.{◌∙◌, arith}
use Rattle.htl_model.proofs.FrameSteps.{gcd_step}
use Rattle.htl_model.proofs.starts.gcd.Goals as goal

pub loop-y-preserved : goal.loop-y-preserved
loop-y-preserved c = gcd_step c.loop-y.x c.loop-y.y (omega (arith, c.loop-y-test.true)) ∙ c.loop-y.invariant
