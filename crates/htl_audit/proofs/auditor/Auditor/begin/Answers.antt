use Rattle.htl_audit.proofs.{Words.sym, Words.subst, Words.arith, Words.inl, Words.IsAuditor, Keepers.begun_auditor}
use Rattle.htl_audit.proofs.auditor.Auditor.begin.Goals as goal

pub invariant_of-self : goal.invariant_of-self
invariant_of-self c = (
  subst (λ z. IsAuditor c.self.inside.loaded.now c.self.inside.machine c.self.inside.takes c.self.inside.log.now z) (sym c.begin.ensures)
      (begun_auditor c.self.inside.loaded.now c.self.inside.machine c.self.inside.takes c.self.inside.log.now c.self.inside.ledger c.tables.result.now c.self.inside.machine.standing.calendar.modes c.as_slice.result.now c.args.at c.self.invariant.0),
  record { feeders_are = c.self.invariant.1.feeders_are; due_is = λ i e. inl (omega arith) },
)
