use Rattle.htl_refine.proofs.ServedSoFar.{front_served}
use Rattle.htl_refine.proofs.laws.front_served.Goals as goal

pub returns : goal.returns
returns c = front_served
