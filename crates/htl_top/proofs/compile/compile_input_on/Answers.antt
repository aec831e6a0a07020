use Rattle.std.proofs.Common.{ap, refl, Err}
use Rattle.htl_top.proofs.{Vocabulary.streams, Vocabulary.IsBuiltOn, Vocabulary.IsUnbuiltOn, Compiling.unread_stop}
use Rattle.htl_top.specs.declared.input.InputStop.{InputStop}
use Rattle.htl_top.proofs.compile.compile_input_on.Goals as goal

pub returns-in-Err-clause-answer : goal.returns-in-Err-clause-answer
returns-in-Err-clause-answer g c =
    let side = streams g.R.Source.rest g.R.Source.faults g.W.Sink.written g.W.Sink.faults in
    unread_stop (IsBuiltOn c.args.platform.now) (IsUnbuiltOn c.args.platform.now) (side c.args.input.now c.args.out.now) (side c.read_input.new.input c.args.out.now) c.in-Err.stop refl
    (λ e. c.in-Err.ensures.long (ap (λ (s : InputStop). Err s) e)) (λ e. c.in-Err.ensures.failed (ap (λ (s : InputStop). Err s) e))
