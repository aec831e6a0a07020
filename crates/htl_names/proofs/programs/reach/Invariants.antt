use Rattle.std.proofs.Common.{◌+◌, map, length}
use Rattle.htl_names.proofs.{Words.edge_targets, Reaching.Searches, Reaching.owed}
use Rattle.htl_names.proofs.programs.reach.Given as goal

abbrev pub invariant-loop-p : goal.invariant-loop-p
invariant-loop-p l = Searches (map edge_targets l.rows) l.seen.items l.waiting.items

abbrev pub decreases-loop-p : goal.decreases-loop-p
decreases-loop-p l = owed l.seen.items (map edge_targets l.rows) + length l.waiting.items
