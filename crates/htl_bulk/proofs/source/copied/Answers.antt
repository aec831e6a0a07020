use Rattle.std.proofs.Common.{◌∷◌, ◌∙◌, [], ap}
use Rattle.htl_bulk.proofs.Words.{copied, in_expr, is_expr}
use Rattle.htl_text.specs.declared.expression.Node.TheVariants as node
use Rattle.htl_bulk.proofs.source.copied.Goals as goal

pub new-requires : goal.new-requires
new-requires c = is_expr copied _ (c.in_ok-nodes.ensures.items ∙ ap (λ id. node.Named id ∷ []) c.named.ensures)

pub returns : goal.returns
returns c = c.new.ensures ∙ in_expr copied _ (c.in_ok-nodes.ensures.items ∙ ap (λ id. node.Named id ∷ []) c.named.ensures)
