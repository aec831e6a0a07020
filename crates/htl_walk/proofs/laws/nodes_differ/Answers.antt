use Rattle.htl_walk.proofs.NodeNumbers.{nodes_differ}
use Rattle.htl_walk.proofs.laws.nodes_differ.Goals as goal

pub returns : goal.returns
returns c = nodes_differ
