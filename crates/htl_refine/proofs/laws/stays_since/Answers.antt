use Rattle.htl_refine.proofs.OwnRounds.{stays_since}
use Rattle.htl_refine.proofs.laws.stays_since.Goals as goal

pub returns : goal.returns
returns c = stays_since
