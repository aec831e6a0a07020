use Rattle.std.proofs.Common.{◌≡◌, drop}
use Rattle.htl_audit.specs.Feeders.{are_done}
use Rattle.htl_audit.proofs.ledger.Ledger.are_done.Given as goal

abbrev pub invariant-loop-k : goal.invariant-loop-k
invariant-loop-k l = are_done l.self.roster l.self.sums (drop l.k l.invs) ≡ are_done l.self.roster l.self.sums l.invs
