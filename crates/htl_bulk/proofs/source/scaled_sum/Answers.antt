use Rattle.std.proofs.Common.{◌≡◌, ◌+◌, ◌∙◌, suc, ap, arith, rules, to_z, of_z, w64}
use Rattle.htl_bulk.proofs.{Words.in_expr, Words.is_expr, Words.scaled_sum, TreeParts.scaled_nodes}
use Rattle.std.proofs.Common.{pos}
use Rattle.htl_bulk.proofs.source.scaled_sum.Goals as goal

pub new-requires : goal.new-requires
new-requires c =
    let one : c.args.k + 1 ≡ suc c.args.k = omega arith in
    let is : to_z w64 (of_z w64 c.value_of.result) ≡ c.value_of.result = search rules in
    is_expr (scaled_sum c.args.k) _ (c.in_ok-nodes.ensures.items ∙ scaled_nodes c.args.k _ _ _ c.named.ensures c.named-2.ensures (is ∙ c.value_of.ensures ∙ ap pos one))

pub returns : goal.returns
returns c =
    let one : c.args.k + 1 ≡ suc c.args.k = omega arith in
    let is : to_z w64 (of_z w64 c.value_of.result) ≡ c.value_of.result = search rules in
    c.new.ensures ∙ in_expr (scaled_sum c.args.k) _ (c.in_ok-nodes.ensures.items ∙ scaled_nodes c.args.k _ _ _ c.named.ensures c.named-2.ensures (is ∙ c.value_of.ensures ∙ ap pos one))
