use Rattle.htl_audit.proofs.Auditing.{audited_legal, audited_fault}
use Rattle.htl_audit.proofs.auditor.Auditor.verdict.Goals as goal

pub returns-clause-legal : goal.returns-clause-legal
returns-clause-legal c = λ es f.
    audited_legal (record { machine = c.self.inside.machine; log = c.self.inside.log.now; takes = c.self.inside.takes; kept = c.self.inside.ledger }) c.args.self.now es c.self.view_is f c.verdict.result c.reading.result c.reading.ensures c.verdict.ensures

pub returns-clause-fault : goal.returns-clause-fault
returns-clause-fault c = λ es f.
    audited_fault (record { machine = c.self.inside.machine; log = c.self.inside.log.now; takes = c.self.inside.takes; kept = c.self.inside.ledger }) c.args.self.now es c.self.view_is f c.verdict.result c.reading.result c.reading.ensures c.verdict.ensures
