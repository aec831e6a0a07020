use Rattle.std.proofs.Common.{Ok, Err}
use Rattle.htl_top.proofs.{Vocabulary.Some, Vocabulary.files, Vocabulary.streams, Vocabulary.IsAuditOf, BothFiles.done_with_both, Inputs.taken_none}
use Rattle.htl_top.proofs.audit.audit_file.Goals as goal

pub returns-in_err-object-clause-taken : goal.returns-in_err-object-clause-taken
returns-in_err-object-clause-taken g c = taken_none 1073742080 (g.R.Source.rest c.args.input.now)

pub returns-in-Ok-clause-answer : goal.returns-in-Ok-clause-answer
returns-in-Ok-clause-answer g c =
    let side = streams g.R.Source.rest g.R.Source.faults g.W.Sink.written g.W.Sink.faults in
    done_with_both (λ o bytes. IsAuditOf bytes o (side c.args.input.now c.args.out.now) (side c.audit_bytes.new.input c.audit_bytes.new.out)) (Some c.args.name.now) (Some c.args.log.now)
    (files g.S.Shelf.holds g.S.Shelf.faults c.args.shelf.now c.open_both.new.shelf) c.in_ok-object.object c.in_ok-object.log.items c.as_slice.result.now c.as_slice.ensures.value
    c.in_ok-object.ensures.opened (Ok tt) c.in-Ok.ensures.answer

pub returns-clause-answer : goal.returns-clause-answer
returns-clause-answer g c =
    let side = streams g.R.Source.rest g.R.Source.faults g.W.Sink.written g.W.Sink.faults in
    done_with_both (λ o bytes. IsAuditOf bytes o (side c.args.input.now c.args.out.now) (side c.audit_bytes.new.input c.audit_bytes.new.out)) (Some c.args.name.now) (Some c.args.log.now)
    (files g.S.Shelf.holds g.S.Shelf.faults c.args.shelf.now c.open_both.new.shelf) c.in_ok-object.object c.in_ok-object.log.items c.as_slice.result.now c.as_slice.ensures.value
    c.in_ok-object.ensures.opened (Err c.in-Err.stop) c.in-Err.ensures.answer
