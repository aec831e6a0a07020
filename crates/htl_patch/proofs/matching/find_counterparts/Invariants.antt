use Rattle.std.proofs.Common.{◌≡◌}
use Rattle.htl_patch.proofs.Words.{list_to, counterpart}
use Rattle.htl_patch.proofs.matching.find_counterparts.Given as goal

abbrev pub invariant-loop-p : goal.invariant-loop-p
invariant-loop-p l = l.found.items ≡ list_to (counterpart l.g) l.p
