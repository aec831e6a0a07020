use Rattle.std.proofs.Common.{length}
use Rattle.htl_parse.proofs.Items.{IsListing}
use Rattle.htl_parse.proofs.repeated.items.Given as goal

abbrev pub invariant-loop-cursor : goal.invariant-loop-cursor
invariant-loop-cursor g l = IsListing g.T.Listable.reading l.fn.cursor l.cursor (g.T.Listable.plains l.found.items)

abbrev pub decreases-loop-cursor : goal.decreases-loop-cursor
decreases-loop-cursor g l = length l.cursor
