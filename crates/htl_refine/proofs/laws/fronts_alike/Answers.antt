use Rattle.htl_refine.proofs.WalksAgree.{fronts_alike}
use Rattle.htl_refine.proofs.laws.fronts_alike.Goals as goal

pub returns : goal.returns
returns c = fronts_alike
