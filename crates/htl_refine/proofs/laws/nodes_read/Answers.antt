use Rattle.htl_refine.proofs.NodeRead.{nodes_read}
use Rattle.htl_refine.proofs.laws.nodes_read.Goals as goal

pub returns : goal.returns
returns c = nodes_read
