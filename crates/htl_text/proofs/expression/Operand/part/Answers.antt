use Rattle.htl_text.proofs.Parts.{some_node}
use Rattle.htl_text.proofs.expression.Operand.part.Goals as goal

pub unreachable-requires : goal.unreachable-requires
unreachable-requires c = some_node c.self.inside.nodes.now c.self.invariant c.in-None.ensures.cases
