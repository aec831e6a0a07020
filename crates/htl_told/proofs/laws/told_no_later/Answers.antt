use Rattle.htl_told.proofs.LinesNoLater.{told_no_later}
use Rattle.htl_told.proofs.laws.told_no_later.Goals as goal

pub returns : goal.returns
returns c = told_no_later
