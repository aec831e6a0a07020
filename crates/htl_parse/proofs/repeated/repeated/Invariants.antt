use Rattle.htl_parse.proofs.{Words.length, Words.repeated_at, Repeats.IsRepeating}
use Rattle.htl_parse.proofs.repeated.repeated.Given as goal

abbrev pub invariant-items : goal.invariant-items
invariant-items g l =
    IsRepeating g.T.Repeatable.starts g.T.Repeatable.reading (repeated_at g.T.Repeatable.starts g.T.Repeatable.reading l.fn.cursor) l.cursor (g.T.Repeatable.plains l.found.items)

abbrev pub decreases-items : goal.decreases-items
decreases-items g l = length l.cursor
