use Rattle.htl_refine.proofs.NodeRead.{nodes_agree}
use Rattle.htl_refine.proofs.laws.nodes_agree.Goals as goal

pub returns : goal.returns
returns c = nodes_agree
