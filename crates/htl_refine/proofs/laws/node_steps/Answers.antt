use Rattle.htl_refine.proofs.NodeRead.{node_steps}
use Rattle.htl_refine.proofs.laws.node_steps.Goals as goal

pub returns : goal.returns
returns c = node_steps
