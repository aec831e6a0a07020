use Rattle.htl_top.proofs.{Going.not_refused, Going.run_made, Inputs.taken_none}
use Rattle.htl_top.specs.Answers.{streams}
use Rattle.htl_top.proofs.go.run_compiled.Goals as goal

pub unreachable-requires : goal.unreachable-requires
unreachable-requires g c =
    not_refused c.requires.0 c.args.object.now c.in-Err-Refused.field-0 c.in-Err-Refused.field-0-0 c.requires.1 c.in-Err-Refused.ensures.only c.in-Err-Refused.field-0-is

pub returns-in-Ok-clause-answer : goal.returns-in-Ok-clause-answer
returns-in-Ok-clause-answer g c =
    let side = streams g.R.Source.rest g.R.Source.faults g.W.Sink.written g.W.Sink.faults in
    run_made c.args.object.now c.in-Ok.loaded (side c.args.input.now c.args.out.now) (side c.execute.new.input c.execute.new.out) c.execute.result c.in-Ok.ensures.only c.execute.ensures.answer

pub returns-in-Err-Memory-clause-taken : goal.returns-in-Err-Memory-clause-taken
returns-in-Err-Memory-clause-taken g c = taken_none 1073742080 (g.R.Source.rest c.args.input.now)
