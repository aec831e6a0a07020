use Rattle.std.proofs.Common.{arith}
use Rattle.htl_walk.proofs.Nodes.{nodes_within}
use Rattle.htl_walk.proofs.node_walk.node.Goals as goal

pub returns-clause-within : goal.returns-clause-within
returns-clause-within c = omega (arith, c.node.ensures, nodes_within c.args.t.now c.args.path c.args.j c.requires.path c.requires.start)
