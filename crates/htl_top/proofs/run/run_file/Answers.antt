use Rattle.std.proofs.Common.{Ok, Err}
use Rattle.htl_top.proofs.{Vocabulary.Some, Vocabulary.files, Vocabulary.streams, Vocabulary.IsRun, Vocabulary.Object, Inputs.taken_none, Stops.loaded_does}
use Rattle.htl_top.proofs.run.run_file.Goals as goal

pub returns-in_err-loaded-clause-taken : goal.returns-in_err-loaded-clause-taken
returns-in_err-loaded-clause-taken g c = taken_none 1073742080 (g.R.Source.rest c.args.input.now)

pub returns-in-Ok-clause-answer : goal.returns-in-Ok-clause-answer
returns-in-Ok-clause-answer g c =
    let side = streams g.R.Source.rest g.R.Source.faults g.W.Sink.written g.W.Sink.faults in
    loaded_does (Some c.args.name.now) (files g.S.Shelf.holds g.S.Shelf.faults c.args.shelf.now c.open.new.shelf)
    (λ (o : Object). IsRun c.args.show o.tables o (side c.args.input.now c.args.out.now) (side c.execute.new.input c.execute.new.out) (Ok tt))
    c.in_ok-loaded.loaded c.in_ok-loaded.ensures.opened c.in-Ok.ensures.answer

pub returns-clause-answer : goal.returns-clause-answer
returns-clause-answer g c =
    let side = streams g.R.Source.rest g.R.Source.faults g.W.Sink.written g.W.Sink.faults in
    loaded_does (Some c.args.name.now) (files g.S.Shelf.holds g.S.Shelf.faults c.args.shelf.now c.open.new.shelf)
    (λ (o : Object). IsRun c.args.show o.tables o (side c.args.input.now c.args.out.now) (side c.execute.new.input c.execute.new.out) (Err c.in-Err.stop))
    c.in_ok-loaded.loaded c.in_ok-loaded.ensures.opened c.in-Err.ensures.answer
