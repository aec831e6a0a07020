use Rattle.std.proofs.Common.{not, ap}
use Rattle.htl_form.specs.WriterFaults.{stand_together}
use Rattle.htl_form.proofs.paths.stand_together.Goals as goal

pub returns : goal.returns
unfolding stand_together
returns c = ap not c.paths_rival.ensures
