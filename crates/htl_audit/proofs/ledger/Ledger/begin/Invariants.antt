use Rattle.std.proofs.Common.{◌≡◌, length}
use Rattle.htl_audit.specs.Keeping.{renewed_to}
use Rattle.htl_audit.proofs.ledger.Ledger.begin.Given as goal

abbrev pub invariant-loop-i : goal.invariant-loop-i
invariant-loop-i l =
    (l.self ≡ renewed_to l.t l.machine.standing.calendar.modes l.takes l.at l.i l.initial.self)
    × (length l.self.roster.stands ≡ length l.t.invs)
