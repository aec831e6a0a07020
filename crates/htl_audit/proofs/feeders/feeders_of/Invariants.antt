use Rattle.std.proofs.Common.{◌≡◌, ◌++◌, drop}
use Rattle.htl_audit.specs.Feeders.{feeders_from, feeders_of}
use Rattle.htl_audit.proofs.feeders.feeders_of.Given as goal

abbrev pub invariant-loop-n : goal.invariant-loop-n
invariant-loop-n l = l.found.items ++ feeders_from l.t l.inv l.n (drop l.n l.t.invs) ≡ feeders_of l.t l.inv
