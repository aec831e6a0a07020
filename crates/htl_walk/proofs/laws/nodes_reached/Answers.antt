use Rattle.htl_walk.proofs.NodeNumbers.{nodes_reached}
use Rattle.htl_walk.proofs.laws.nodes_reached.Goals as goal

pub returns : goal.returns
returns c = nodes_reached
