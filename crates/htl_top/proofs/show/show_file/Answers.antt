use Rattle.std.proofs.Common.{Ok}
use Rattle.htl_top.proofs.{Vocabulary.Some, Vocabulary.Puts, Vocabulary.files, Vocabulary.show_text, Vocabulary.Object, Stops.loaded_does}
use Rattle.htl_top.proofs.show.show_file.Goals as goal

pub returns-in-Ok-clause-answer : goal.returns-in-Ok-clause-answer
returns-in-Ok-clause-answer g c =
    loaded_does (Some c.args.name.now) (files g.S.Shelf.holds g.S.Shelf.faults c.args.shelf.now c.open.new.shelf)
    (λ (o : Object). Puts (g.W.Sink.written c.args.out.now) (g.W.Sink.written c.write_listing.new.out) (g.W.Sink.faults c.args.out.now) (g.W.Sink.faults c.write_listing.new.out) (show_text o) (Ok tt))
    c.in_ok-loaded.loaded c.in_ok-loaded.ensures.opened c.in-Ok.ensures
