use Rattle.std.proofs.Common.{arith}
use Rattle.htl_model.proofs.FrameBuild.{unit_period_some}
use Rattle.htl_model.proofs.frame.Frame.path_mode.Goals as goal

pub nonzero_div-at : goal.nonzero_div-at
nonzero_div-at c = omega (arith, unit_period_some c.args.t.now c.args.«module» c.keeps_ranges.ensures.ranges c.requires.within, c.unit_period-period.ensures)
