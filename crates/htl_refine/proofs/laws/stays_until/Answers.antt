use Rattle.htl_refine.proofs.OwnRounds.{stays_until}
use Rattle.htl_refine.proofs.laws.stays_until.Goals as goal

pub returns : goal.returns
returns c = stays_until
