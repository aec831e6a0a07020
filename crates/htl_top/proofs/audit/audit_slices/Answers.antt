use Rattle.htl_top.proofs.{AuditFiles.audited_here, Inputs.taken_none as none_taken}
use Rattle.htl_top.specs.Answers.{streams}
use Rattle.htl_top.proofs.audit.audit_slices.Goals as goal

pub returns-clause-answer : goal.returns-clause-answer
returns-clause-answer g c =
    let side = streams g.R.Source.rest g.R.Source.faults g.W.Sink.written g.W.Sink.faults in
    audited_here c.args.l.now c.in-Ok.auditor.machine.object c.args.log.now c.in-Ok.auditor.log (side c.args.input.now c.args.out.now) (side c.play_audit.new.input c.play_audit.new.out) c.play_audit.result
    c.in-Ok.ensures.object c.in-Ok.ensures.log c.play_audit.ensures.answer

pub returns-in_default-clause-taken : goal.returns-in_default-clause-taken
returns-in_default-clause-taken g c = none_taken 1073742080 (g.R.Source.rest c.args.input.now)
