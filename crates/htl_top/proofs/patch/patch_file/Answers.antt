use Rattle.std.proofs.Common.{Ok, Err}
use Rattle.htl_top.proofs.{Vocabulary.Some, Vocabulary.files, Vocabulary.IsDonorTold, BothFiles.done_with_both}
use Rattle.htl_top.proofs.patch.patch_file.Goals as goal

pub returns-in-Ok-clause-answer : goal.returns-in-Ok-clause-answer
returns-in-Ok-clause-answer g c =
    done_with_both (λ o bytes. IsDonorTold o c.args.names.now.unit c.args.names.now.mode bytes (g.W.Sink.written c.args.out.now) (g.W.Sink.written c.patch_with.new.out)
    (g.W.Sink.faults c.args.out.now) (g.W.Sink.faults c.patch_with.new.out)) (Some c.args.name.now) (Some c.args.donor.now)
    (files g.S.Shelf.holds g.S.Shelf.faults c.args.shelf.now c.open_both.new.shelf) c.in_ok-host.host c.in_ok-host.donor.items c.as_slice.result.now c.as_slice.ensures.value
    c.in_ok-host.ensures.opened (Ok tt) c.in-Ok.ensures.answer

pub returns-clause-answer : goal.returns-clause-answer
returns-clause-answer g c =
    done_with_both (λ o bytes. IsDonorTold o c.args.names.now.unit c.args.names.now.mode bytes (g.W.Sink.written c.args.out.now) (g.W.Sink.written c.patch_with.new.out)
    (g.W.Sink.faults c.args.out.now) (g.W.Sink.faults c.patch_with.new.out)) (Some c.args.name.now) (Some c.args.donor.now)
    (files g.S.Shelf.holds g.S.Shelf.faults c.args.shelf.now c.open_both.new.shelf) c.in_ok-host.host c.in_ok-host.donor.items c.as_slice.result.now c.as_slice.ensures.value
    c.in_ok-host.ensures.opened (Err c.in-Err.stop) c.in-Err.ensures.answer
