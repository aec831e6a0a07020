use Rattle.std.proofs.Common.{◌∙◌, ap, map}
use Rattle.htl_names.proofs.{Words.tree_of, Words.pair_of, Words.Rows, RuleLaws.is_err, RuleLaws.names_repeated, RuleLaws.names_apart}
use Rattle.htl_names.proofs.resolving.names_of.Goals as goal

pub returns-in_err-symbols : goal.returns-in_err-symbols
returns-in_err-symbols c =
    let are = c.as_slice.ensures.value ∙ ap (λ (r : Rows). r.entries) (c.rows.view_is ∙ c.in_ok-rows.ensures) in
    rw (is_err c.from_residual-in_err-symbols.result c.in_err-symbols.field-0.0 c.from_residual-in_err-symbols.ensures.1)
    (names_repeated (tree_of c.args.tree.now) c.as_slice.result.now c.in_err-symbols.field-0.0 are c.in_err-symbols.ensures)

pub check_rules-requires-clause-kept : goal.check_rules-requires-clause-kept
check_rules-requires-clause-kept c =
    let are = c.as_slice.ensures.value ∙ ap (λ (r : Rows). r.entries) (c.rows.view_is ∙ c.in_ok-rows.ensures) in
    names_apart (tree_of c.args.tree.now) c.as_slice.result.now are c.in_ok-symbols.ensures.1

pub returns : goal.returns
returns c =
    let are = c.as_slice.ensures.value ∙ ap (λ (r : Rows). r.entries) (c.rows.view_is ∙ c.in_ok-rows.ensures) in
    (c.in_ok-symbols.ensures.0 ∙ ap (map pair_of) are, c.in_ok-check_rules.ensures)
