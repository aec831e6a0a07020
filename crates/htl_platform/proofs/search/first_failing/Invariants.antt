use Rattle.std.proofs.Common.{◌≡◌, ◌+◌, ◌<◌, ◌^◌, length}
use Rattle.htl_platform.proofs.Words.{members_view, entries_of, first_failing}
use Rattle.htl_platform.proofs.search.first_failing.Given as goal

abbrev pub invariant-entries : goal.invariant-entries
invariant-entries g l =
    (first_failing (g.T.Test.passes l.fn.test) l.entry (entries_of (members_view l.key-iterator))
    ≡ first_failing (g.T.Test.passes l.fn.test) l.fn.start (entries_of (members_view l.fn.table.entries)))
    × (l.entry + length l.key-iterator < 2 ^ 64)
