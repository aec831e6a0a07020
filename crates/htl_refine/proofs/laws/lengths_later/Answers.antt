use Rattle.htl_refine.proofs.LengthsLater.{lengths_later}
use Rattle.htl_refine.proofs.laws.lengths_later.Goals as goal

pub returns : goal.returns
returns c = lengths_later
