use Rattle.htl_refine.proofs.WalksAgree.{walks_agree}
use Rattle.htl_refine.proofs.laws.walks_agree.Goals as goal

pub returns : goal.returns
returns c = walks_agree
