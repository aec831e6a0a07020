use Rattle.std.proofs.Common.{ap, ◌∙◌}
use Rattle.htl_text.proofs.{Words.names_of, Words.names_in, Parts.names_in-is}
use Rattle.htl_text.proofs.expression.Expression.nodes.Goals as goal

pub returns-clause-names : goal.returns-clause-names
returns-clause-names c = ap names_in c.as_slice.ensures.value ∙ names_in-is c.self.inside.nodes.items c.self.invariant ∙ ap names_of c.self.view_is
