use Rattle.std.proofs.Common.{subst}
use Rattle.htl_open.specs.{Files.files, Lines.Tells}
use Rattle.htl_times_top.proofs.Calling as calling
use Rattle.htl_times_top.specs.{Answers.object_in, Answers.IsTimes, declared.outcome.Outcome.Outcome}
use Rattle.htl_times_top.proofs.top.times.Goals as goal

pub returns : goal.returns
returns g c =
    let name = object_in c.args.words.now in
    let shelf = files g.S.Shelf.holds g.S.Shelf.faults c.args.shelf.now c.answer_to-answer.new.shelf in
    let old = g.W.Sink.written c.args.out.now in
    let new = g.W.Sink.written c.answer_to-answer.new.out in
    let before = g.W.Sink.faults c.args.out.now in
    let now = g.W.Sink.faults c.answer_to-answer.new.out in
    let outcome = c.answer_to-answer.result.outcome in
    let answer = c.answer_to-answer.ensures.answer in
    let Answered : Outcome → Type 0 = λ o. IsTimes name shelf old new before now o in
    record {
      usage = calling.usage name shelf old new before now outcome answer;
      shelf_failed = λ e. (subst Answered e answer).1;
      shelf_long = λ seen e. (subst Answered e answer).1;
      object = λ fault e. (subst Answered e answer).0;
      done = λ e. subst Answered e answer;
      cut = λ e. subst Answered e answer;
      long_object = λ bytes given long. calling.long_object name shelf old new before now bytes given outcome answer long;
      faulty_object = λ bytes given. calling.faulty_object name shelf old new before now bytes given outcome answer;
      complete = λ o is. calling.complete name shelf old new before now is.bytes is.given o is.short is.has is.accepted outcome answer;
      unwritten = calling.unwritten name shelf old new before now outcome answer;
      shelf = c.answer_to-answer.ensures.shelf;
      shelf_count = c.answer_to-answer.ensures.shelf_count;
      write_count = c.answer_to-answer.ensures.write_count;
      told =
          calling.IsLineTold-report name shelf
          (Tells (g.E.Sink.written c.args.err.now) (g.E.Sink.written c.report.new.err) (g.E.Sink.faults c.args.err.now) (g.E.Sink.faults c.report.new.err))
          c.answer_to-answer.result.tables outcome c.answer_to-answer.ensures.tables (rw c.as_ref.ensures.value at c.report.ensures.told);
      quiet = c.report.ensures.quiet;
      answer = answer;
    }
