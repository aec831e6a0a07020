use Rattle.htl_refine.proofs.ListWalks.{list_walks}
use Rattle.htl_refine.proofs.laws.list_walks.Goals as goal

pub returns : goal.returns
returns c = list_walks
