use Rattle.std.proofs.Common.{Ok, Err}
use Rattle.htl_top.proofs.{Vocabulary.streams, Going.program_run}
use Rattle.htl_top.proofs.go.go.Goals as goal

pub returns-in-Ok-run_compiled-clause-answer : goal.returns-in-Ok-run_compiled-clause-answer
returns-in-Ok-run_compiled-clause-answer g c = λ name shelf source.
    let side = streams g.R.Source.rest g.R.Source.faults g.W.Sink.written g.W.Sink.faults in
    program_run name shelf c.args.bytes.now c.in-Ok.object.items c.as_slice.result.now (side c.args.input.now c.args.out.now) (side c.run_compiled.new.input c.run_compiled.new.out) (Ok tt) source
    c.as_slice.ensures.value c.in-Ok.ensures.compiled c.in-Ok-run_compiled.ensures.answer

pub returns-in-Ok-clause-answer : goal.returns-in-Ok-clause-answer
returns-in-Ok-clause-answer g c = λ name shelf source.
    let side = streams g.R.Source.rest g.R.Source.faults g.W.Sink.written g.W.Sink.faults in
    program_run name shelf c.args.bytes.now c.in-Ok.object.items c.as_slice.result.now (side c.args.input.now c.args.out.now) (side c.run_compiled.new.input c.run_compiled.new.out)
    (Err c.in-Err-run_compiled.stop) source c.as_slice.ensures.value c.in-Ok.ensures.compiled c.in-Err-run_compiled.ensures.answer
