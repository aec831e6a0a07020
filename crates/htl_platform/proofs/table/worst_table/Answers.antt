use Rattle.std.proofs.Common.{◌≡◌, Some, Option, ◌∙◌, ap}
use Rattle.htl_platform.proofs.Words.{codes, option_and_then, Data, get_member, as_table, view, table_view, members_or}
use Rattle.htl_platform.proofs.table.worst_table.Goals as goal

pub returns-in-Some : goal.returns-in-Some
returns-in-Some c =
    let found : Some (view c.in-Some.value.now) ≡ get_member (codes "worst") (table_view c.args.table.now) = rw c.in-Some.is at c.value_at.ensures in
    ap members_or c.as_table.ensures ∙ ap (λ (o : Option Data). members_or (option_and_then as_table o)) found
