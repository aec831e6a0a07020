use Rattle.std.proofs.Common.{List, ℕ, Ok, Err, subst}
use Rattle.htl_top.proofs.{Vocabulary.streams, Vocabulary.IsBuiltOn, Vocabulary.IsInputCompiled, Vocabulary.IsUnbuiltOn, Inputs.taken_none}
use Rattle.htl_top.proofs.compile.compile_for_file.Goals as goal

pub returns-in-Err-clause-taken : goal.returns-in-Err-clause-taken
returns-in-Err-clause-taken g c = taken_none 1052672 (g.R.Source.rest c.args.input.now)

pub returns-in-Ok-compile_input_on-clause-answer : goal.returns-in-Ok-compile_input_on-clause-answer
returns-in-Ok-compile_input_on-clause-answer g c =
    let side = streams g.R.Source.rest g.R.Source.faults g.W.Sink.written g.W.Sink.faults in
    record {
      bytes = c.in-Ok.file.items;
      source = c.in-Ok.ensures.fetched;
      fact =
          subst
          (λ (bs : List ℕ). IsInputCompiled (IsBuiltOn bs) (IsUnbuiltOn bs) (side c.args.input.now c.args.out.now) (side c.compile_input_on.new.input c.compile_input_on.new.out) (Ok tt))
          c.as_slice.ensures.value c.in-Ok-compile_input_on.ensures.answer;
    }

pub returns-clause-answer : goal.returns-clause-answer
returns-clause-answer g c =
    let side = streams g.R.Source.rest g.R.Source.faults g.W.Sink.written g.W.Sink.faults in
    record {
      bytes = c.in-Ok.file.items;
      source = c.in-Ok.ensures.fetched;
      fact =
          subst
          (λ (bs : List ℕ). IsInputCompiled (IsBuiltOn bs) (IsUnbuiltOn bs) (side c.args.input.now c.args.out.now) (side c.compile_input_on.new.input c.compile_input_on.new.out) (Err c.in-Err-compile_input_on.stop))
          c.as_slice.ensures.value c.in-Err-compile_input_on.ensures.answer;
    }
