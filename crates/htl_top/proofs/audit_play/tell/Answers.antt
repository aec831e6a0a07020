use Rattle.htl_top.proofs.AuditStreaming.{audit_text_at, audit_text_last}
use Rattle.htl_top.proofs.audit_play.tell.Goals as goal

pub returns-in-At-clause-text : goal.returns-in-At-clause-text
returns-in-At-clause-text g c = λ es follows.
    audit_text_at c.args.auditor.now es c.args.event c.in-At.to (g.W.Sink.written c.args.out.now) (g.W.Sink.written c.advance.new.sink) (g.W.Sink.faults c.args.out.now) (g.W.Sink.faults c.advance.new.sink)
    c.advance.result follows c.in-At.is (c.advance.ensures.text es follows)

pub returns-in-End-clause-text : goal.returns-in-End-clause-text
returns-in-End-clause-text g c = λ es follows.
    audit_text_last c.args.auditor.now es c.args.event c.in-End.to (g.W.Sink.written c.args.out.now) (g.W.Sink.written c.finish.new.sink) (g.W.Sink.faults c.args.out.now) (g.W.Sink.faults c.finish.new.sink)
    c.finish.result follows c.in-End.is (c.finish.ensures.text es follows)
