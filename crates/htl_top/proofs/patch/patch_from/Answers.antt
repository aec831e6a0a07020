use Rattle.std.proofs.Common.{Ok, Err}
use Rattle.htl_top.proofs.PatchedObjects.{IsDonorTold-put, IsDonorTold-stop}
use Rattle.htl_top.proofs.patch.patch_from.Goals as goal

pub returns-in-Ok-put_object-clause-answer : goal.returns-in-Ok-put_object-clause-answer
returns-in-Ok-put_object-clause-answer g c = λ bytes has.
    let p = c.in-Ok.ensures.patched in
    IsDonorTold-put c.args.l.now c.args.names.now.unit c.args.names.now.mode bytes c.args.donor.now c.in-Ok.patched p.0 has p.1 p.2
    (g.W.Sink.written c.args.out.now) (g.W.Sink.written c.put_object.new.out) (g.W.Sink.faults c.args.out.now) (g.W.Sink.faults c.put_object.new.out) (Ok tt) c.in-Ok-put_object.ensures.answer

pub returns-in-Ok-clause-answer : goal.returns-in-Ok-clause-answer
returns-in-Ok-clause-answer g c = λ bytes has.
    let p = c.in-Ok.ensures.patched in
    IsDonorTold-put c.args.l.now c.args.names.now.unit c.args.names.now.mode bytes c.args.donor.now c.in-Ok.patched p.0 has p.1 p.2
    (g.W.Sink.written c.args.out.now) (g.W.Sink.written c.put_object.new.out) (g.W.Sink.faults c.args.out.now) (g.W.Sink.faults c.put_object.new.out) (Err c.in-Err-put_object.stop)
    c.in-Err-put_object.ensures.answer

pub returns-clause-answer : goal.returns-clause-answer
returns-clause-answer g c = λ bytes has.
    IsDonorTold-stop c.args.l.now c.args.names.now.unit c.args.names.now.mode bytes c.args.donor.now has (g.W.Sink.written c.args.out.now) (g.W.Sink.faults c.args.out.now) c.in-Err.stop
    c.in-Err.ensures.fault
