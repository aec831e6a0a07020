use Rattle.std.proofs.Common.{Ok, Err}
use Rattle.htl_top.proofs.{Vocabulary.Some, Vocabulary.files, Vocabulary.IsSlackTold, Vocabulary.Object, Stops.loaded_does}
use Rattle.htl_top.proofs.slack.slack_file.Goals as goal

pub returns-in-Ok-clause-answer : goal.returns-in-Ok-clause-answer
returns-in-Ok-clause-answer g c =
    loaded_does (Some c.args.file.now) (files g.S.Shelf.holds g.S.Shelf.faults c.args.shelf.now c.open.new.shelf)
    (λ (o : Object). IsSlackTold c.args.owner.now c.args.name.now o.tables (g.W.Sink.written c.args.out.now) (g.W.Sink.written c.tell_slack.new.out) (g.W.Sink.faults c.args.out.now) (g.W.Sink.faults c.tell_slack.new.out) (Ok tt))
    c.in_ok-loaded.loaded c.in_ok-loaded.ensures.opened c.in-Ok.ensures.answer

pub returns-clause-answer : goal.returns-clause-answer
returns-clause-answer g c =
    loaded_does (Some c.args.file.now) (files g.S.Shelf.holds g.S.Shelf.faults c.args.shelf.now c.open.new.shelf)
    (λ (o : Object). IsSlackTold c.args.owner.now c.args.name.now o.tables (g.W.Sink.written c.args.out.now) (g.W.Sink.written c.tell_slack.new.out) (g.W.Sink.faults c.args.out.now) (g.W.Sink.faults c.tell_slack.new.out) (Err c.in-Err.stop))
    c.in_ok-loaded.loaded c.in_ok-loaded.ensures.opened c.in-Err.ensures.answer
