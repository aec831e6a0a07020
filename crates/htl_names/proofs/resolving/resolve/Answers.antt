use Rattle.std.proofs.Common.{◌∙◌, sym, subst}
use Rattle.htl_names.proofs.{Words.KeepsLimits, Words.AreInRange, Words.AreSmall, Words.tables_of, Words.tree_of, Words.IsNarrow, InRange.names-in-range, KeepsLimits.names-keep-limits, RuleLaws.resolved_err, RuleLaws.is_err}
use Rattle.htl_names.proofs.{Ordering.layout_is, Ordering.tables_are, Ordering.names-narrow, SmallFunctions.functions_small}
use Rattle.htl_names.proofs.resolving.resolve.Goals as goal

pub returns-in_err-symbols : goal.returns-in_err-symbols
returns-in_err-symbols c =
    rw (is_err c.from_residual.result c.in_err-symbols.field-0.0 c.from_residual.ensures.1)
    (record { resolved = resolved_err (tree_of c.args.tree.now) c.in_err-symbols.field-0.0 c.in_err-symbols.ensures; limits = tt; functions = tt })

pub parts_of-requires : goal.parts_of-requires
parts_of-requires c =
    let ps = tree_of c.args.tree.now in
    subst (λ l. IsNarrow l ps) (sym (layout_is ps c.in_ok-symbols.symbols c.in_ok-layout.layout c.in_ok-symbols.ensures.0 c.in_ok-layout.ensures))
    (names-narrow ps c.requires.bounds c.in_ok-symbols.ensures.1)

pub new-requires : goal.new-requires
new-requires c =
    let ps = tree_of c.args.tree.now in
    subst AreInRange (sym (tables_are ps c.in_ok-symbols.symbols c.in_ok-layout.layout (tables_of c.in_ok-parts.parts) c.in_ok-symbols.ensures.0 c.in_ok-layout.ensures c.in_ok-parts.ensures))
    (names-in-range ps c.requires.bounds c.in_ok-symbols.ensures.1)

pub returns : goal.returns
returns c =
    let ps = tree_of c.args.tree.now in
    let right = c.in_ok-symbols.ensures.1 in
    let same = c.new.ensures
    ∙ tables_are ps c.in_ok-symbols.symbols c.in_ok-layout.layout (tables_of c.in_ok-parts.parts) c.in_ok-symbols.ensures.0 c.in_ok-layout.ensures c.in_ok-parts.ensures in
    record {
      resolved = (right, same);
      limits = subst KeepsLimits (sym same) (names-keep-limits ps c.requires.bounds right);
      functions = subst AreSmall (sym same) (functions_small ps c.requires.bounds right (names-in-range ps c.requires.bounds right));
    }
