use Rattle.htl_refine.proofs.ServedSoFar.{list_served}
use Rattle.htl_refine.proofs.laws.list_served.Goals as goal

pub returns : goal.returns
returns c = list_served
