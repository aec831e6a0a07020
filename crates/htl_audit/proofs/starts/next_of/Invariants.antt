use Rattle.htl_audit.proofs.Words.{map, take, unit_period, IsNextIn}
use Rattle.htl_audit.proofs.starts.next_of.Given as goal

abbrev pub invariant-loop-k : goal.invariant-loop-k
invariant-loop-k l = IsNextIn (map (unit_period l.t) (take l.k l.roots)) l.at l.next
