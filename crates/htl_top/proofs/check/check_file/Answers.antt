use Rattle.std.proofs.Common.{Ok}
use Rattle.htl_top.proofs.{Vocabulary.Some, Vocabulary.subst, Vocabulary.Puts, Vocabulary.files, Vocabulary.check_text, Vocabulary.Object, Vocabulary.Tables, Stops.loaded_does}
use Rattle.htl_top.proofs.check.check_file.Goals as goal

pub returns-in-Ok-clause-answer : goal.returns-in-Ok-clause-answer
returns-in-Ok-clause-answer g c =
    loaded_does (Some c.args.name.now) (files g.S.Shelf.holds g.S.Shelf.faults c.args.shelf.now c.open.new.shelf)
    (λ (o : Object). Puts (g.W.Sink.written c.args.out.now) (g.W.Sink.written c.write_check.new.out) (g.W.Sink.faults c.args.out.now) (g.W.Sink.faults c.write_check.new.out) (check_text o.tables) (Ok tt))
    c.in_ok-loaded.loaded c.in_ok-loaded.ensures.opened (
    subst
    (λ (t : Tables). Puts (g.W.Sink.written c.args.out.now) (g.W.Sink.written c.write_check.new.out) (g.W.Sink.faults c.args.out.now) (g.W.Sink.faults c.write_check.new.out) (check_text t) (Ok tt))
    c.tables.ensures.value c.in-Ok.ensures
    )
