use Rattle.std.proofs.Common.{◌≡◌, ◌∙◌}
use Rattle.htl_platform.proofs.{Words.table_view, Words.worst_of, TableLaws.first_failing-equal}
use Rattle.htl_platform.proofs.table.first_in_worst.Goals as goal

pub returns-in-Some : goal.returns-in-Some
returns-in-Some g c =
    let found : table_view c.in-Some.worst.now ≡ worst_of (table_view c.args.table.now) = rw c.in-Some.is at c.worst_table.ensures in
    c.first_failing.ensures ∙ first_failing-equal (g.T.Test.passes c.args.test.now) c.entry_count.ensures.value found
