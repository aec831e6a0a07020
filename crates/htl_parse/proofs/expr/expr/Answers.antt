use Rattle.std.proofs.Common.{◌++◌, ap, sym, ◌∙◌, List, Ok}
use Rattle.htl_parse.proofs.Words.{Expr, nodes_of, is_expr, in_expr, Node}
use Rattle.htl_parse.proofs.expr.expr.Goals as goal

pub new-requires : goal.new-requires
new-requires c =
    let put = c.in_ok-whole.ensures.reads in
    is_expr put.0 c.whole.new.nodes.items (put.2 ∙ ap (λ (l : List Node). l ++ nodes_of put.0) c.new-nodes.ensures.items)

pub returns : goal.returns
returns c =
    let put = c.in_ok-whole.ensures.reads in
    let same = in_expr put.0 c.whole.new.nodes.items (put.2 ∙ ap (λ (l : List Node). l ++ nodes_of put.0) c.new-nodes.ensures.items) in
    put.1 ∙ ap (λ (e : Expr). Ok (e, c.whole.new.cursor)) (sym (c.new.ensures ∙ same))
