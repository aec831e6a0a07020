use Rattle.htl_audit.proofs.Words.{sym, subst, Puts, text_between, Audit, suc}
use Rattle.htl_machine.specs.Calls as machines
use Rattle.htl_audit.proofs.auditor.Auditor.end_run.Goals as goal

pub returns-clause-text : goal.returns-clause-text
returns-clause-text g c = λ es f.
    subst (λ (z : Audit). Puts (g.W.Sink.written c.args.sink.now) (g.W.Sink.written c.finish.new.sink) (g.W.Sink.faults c.args.sink.now) (g.W.Sink.faults c.finish.new.sink) (text_between z.machine.object es z.machine.show z.machine.run_state.reading (suc c.args.to)) c.finish.result) c.self.view_is
    (c.finish.ensures.text es (subst (λ (z : Audit). machines.Follows z.machine es) (sym c.self.view_is) f))
