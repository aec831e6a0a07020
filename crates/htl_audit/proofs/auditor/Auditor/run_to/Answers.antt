use Rattle.htl_audit.proofs.Words.{sym, subst, Puts, text_between, Audit}
use Rattle.htl_machine.specs.Calls as machines
use Rattle.htl_audit.proofs.auditor.Auditor.run_to.Goals as goal

pub returns-clause-text : goal.returns-clause-text
returns-clause-text g c = λ es f.
    subst (λ (z : Audit). Puts (g.W.Sink.written c.args.sink.now) (g.W.Sink.written c.advance.new.sink) (g.W.Sink.faults c.args.sink.now) (g.W.Sink.faults c.advance.new.sink) (text_between z.machine.object es z.machine.show z.machine.run_state.reading c.args.to) c.advance.result) c.self.view_is
    (c.advance.ensures.text es (subst (λ (z : Audit). machines.Follows z.machine es) (sym c.self.view_is) f))
