use Rattle.htl_top.proofs.{Vocabulary.List, Vocabulary.ℕ, Vocabulary.append_known, Vocabulary.AppendsPrefix, PatchedObjects.IsObjectPut-written}
use Rattle.std.proofs.Common.{◌≡◌}
use Rattle.htl_top.proofs.patch.put_object.Goals as goal

pub returns-in-Ok-put_all-clause-answer : goal.returns-in-Ok-put_all-clause-answer
returns-in-Ok-put_all-clause-answer g c =
    IsObjectPut-written c.args.l.now c.object.result.now c.in-Ok.bytes.items c.as_slice.result.now c.object.ensures.value c.object.ensures.accepted c.in-Ok.ensures.object c.in-Ok.ensures.spelled
    c.as_slice.ensures.value (λ (bs : List ℕ). g.W.Sink.written c.put_all.new.sink ≡ append_known (g.W.Sink.written c.args.out.now) bs) c.in-Ok-put_all.ensures.whole

pub returns-in-Ok-clause-answer : goal.returns-in-Ok-clause-answer
returns-in-Ok-clause-answer g c =
    let put =
    IsObjectPut-written c.args.l.now c.object.result.now c.in-Ok.bytes.items c.as_slice.result.now c.object.ensures.value c.object.ensures.accepted c.in-Ok.ensures.object c.in-Ok.ensures.spelled
    c.as_slice.ensures.value (λ (bs : List ℕ). AppendsPrefix (g.W.Sink.written c.args.out.now) (g.W.Sink.written c.put_all.new.sink) bs) c.in-Err-put_all.ensures.part in
    (put.0, put.1, c.in-Err-put_all.ensures.cause.refused, put.2)
