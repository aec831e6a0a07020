use Rattle.htl_top.proofs.{Inputs.taken_none, Running.run_here}
use Rattle.htl_top.specs.Answers.{streams}
use Rattle.htl_top.proofs.execute.execute.Goals as goal

pub returns-clause-answer : goal.returns-clause-answer
returns-clause-answer g c =
    let side = streams g.R.Source.rest g.R.Source.faults g.W.Sink.written g.W.Sink.faults in
    run_here c.args.show c.in-Ok.machine.show c.args.l.now c.in-Ok.machine.object (side c.args.input.now c.args.out.now) (side c.play.new.input c.play.new.out) c.play.result c.in-Ok.ensures.show
    c.in-Ok.ensures.object c.play.ensures.answer

pub returns-in_default-clause-taken : goal.returns-in_default-clause-taken
returns-in_default-clause-taken g c = taken_none 1073742080 (g.R.Source.rest c.args.input.now)
