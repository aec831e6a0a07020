use Rattle.htl_walk.proofs.NodeNumbers.{modes_stay}
use Rattle.htl_walk.proofs.laws.modes_stay.Goals as goal

pub returns : goal.returns
returns c = modes_stay
