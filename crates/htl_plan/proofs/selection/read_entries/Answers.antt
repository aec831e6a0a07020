use Rattle.std.proofs.Common.{Bool, Ok, take, refl, ◌∙◌, subst, arith}
use Rattle.htl_plan.proofs.Words.{AnswersLine}
use Rattle.htl_plan.proofs.SelectionReading.{reading_start, reading_on, reading_line, answered_stop, answered_fault, answered_end, selected_end, loses_front}
use Rattle.htl_plan.proofs.selection.read_entries.Goals as goal

pub lines-init : goal.lines-init
lines-init g c = (reading_start c.args.t.now c.new-lines.result c.args.modes.now (g.R.Source.rest c.args.src.now) c.new-lines.ensures, refl, c.requires, omega arith)

pub returns-in-Ok-false-clause-input : goal.returns-in-Ok-false-clause-input
returns-in-Ok-false-clause-input g c =
    let reading = reading_on c.args.t.now c.lines.lines c.next.new.self (take c.lines.done c.lines.modes) (g.R.Source.rest c.args.src.now) (g.R.Source.rest c.lines.src) (g.R.Source.rest c.next.new.src) c.lines.invariant.0 c.next.ensures.reads in
    let end = subst (λ (o : Bool). AnswersLine c.next.new.self (Ok o)) c.in-Ok-false.field-0-test c.in-Ok-false.ensures.answer in
    answered_end c.args.t.now c.next.new.self c.lines.modes c.lines.done (g.R.Source.rest c.args.src.now) (g.R.Source.rest c.next.new.src) reading (Unit {0}) c.end.result c.lines.invariant.2 c.lines.invariant.3 end c.end.ensures

pub returns-in-Ok-false-clause-selection : goal.returns-in-Ok-false-clause-selection
returns-in-Ok-false-clause-selection g c =
    let reading = reading_on c.args.t.now c.lines.lines c.next.new.self (take c.lines.done c.lines.modes) (g.R.Source.rest c.args.src.now) (g.R.Source.rest c.lines.src) (g.R.Source.rest c.next.new.src) c.lines.invariant.0 c.next.ensures.reads in
    let end = subst (λ (o : Bool). AnswersLine c.next.new.self (Ok o)) c.in-Ok-false.field-0-test c.in-Ok-false.ensures.answer in
    selected_end c.args.t.now c.next.new.self c.lines.modes c.lines.done (g.R.Source.rest c.args.src.now) (g.R.Source.rest c.next.new.src) reading (Unit {0}) c.end.result c.parts-parts.ensures.ranges c.lines.invariant.2 c.lines.invariant.3 end c.end.ensures

pub returns-in-Err-clause-input : goal.returns-in-Err-clause-input
returns-in-Err-clause-input g c =
    let reading = reading_on c.args.t.now c.lines.lines c.next.new.self (take c.lines.done c.lines.modes) (g.R.Source.rest c.args.src.now) (g.R.Source.rest c.lines.src) (g.R.Source.rest c.next.new.src) c.lines.invariant.0 c.next.ensures.reads in
    answered_stop c.args.t.now c.next.new.self c.lines.modes c.lines.done (g.R.Source.rest c.args.src.now) (g.R.Source.rest c.next.new.src) reading (Unit {0}) c.in-Err.stop c.lines.modes c.in-Err.ensures.answer

pub returns-in-Err-clause-taken : goal.returns-in-Err-clause-taken
returns-in-Err-clause-taken g c =
    let reading = reading_on c.args.t.now c.lines.lines c.next.new.self (take c.lines.done c.lines.modes) (g.R.Source.rest c.args.src.now) (g.R.Source.rest c.lines.src) (g.R.Source.rest c.next.new.src) c.lines.invariant.0 c.next.ensures.reads in
    loses_front c.args.t.now c.next.new.self c.lines.modes c.lines.done (g.R.Source.rest c.args.src.now) (g.R.Source.rest c.next.new.src) reading c.next.ensures.place c.next.ensures.few

pub lines-preserved : goal.lines-preserved
lines-preserved g c =
    let reading = reading_on c.args.t.now c.lines.lines c.next.new.self (take c.lines.done c.lines.modes) (g.R.Source.rest c.args.src.now) (g.R.Source.rest c.lines.src) (g.R.Source.rest c.next.new.src) c.lines.invariant.0 c.next.ensures.reads in
    let at = subst (λ (o : Bool). AnswersLine c.next.new.self (Ok o)) c.in-Ok-true.field-0-test c.in-Ok-true.ensures.answer in (
      reading_line c.args.t.now c.next.new.self c.lines.modes c.lines.done (g.R.Source.rest c.args.src.now) (g.R.Source.rest c.next.new.src) reading c.take_line.new.lines c.take_line.new.modes c.in-Ok.count at c.in-Ok.ensures.takes,
      c.in-Ok-true.ensures.kept (λ stopped. cc) ∙ c.lines.invariant.1,
      c.take_line.ensures.len ∙ c.lines.invariant.2,
      c.in-Ok.ensures.done,
    )

pub returns-in-Err-take_line-clause-input : goal.returns-in-Err-take_line-clause-input
returns-in-Err-take_line-clause-input g c =
    let reading = reading_on c.args.t.now c.lines.lines c.next.new.self (take c.lines.done c.lines.modes) (g.R.Source.rest c.args.src.now) (g.R.Source.rest c.lines.src) (g.R.Source.rest c.next.new.src) c.lines.invariant.0 c.next.ensures.reads in
    let at = subst (λ (o : Bool). AnswersLine c.next.new.self (Ok o)) c.in-Ok-true.field-0-test c.in-Ok-true.ensures.answer in
    answered_fault c.args.t.now c.next.new.self c.lines.modes c.lines.done (g.R.Source.rest c.args.src.now) (g.R.Source.rest c.next.new.src) reading (Unit {0}) c.in-Err-take_line.stop c.take_line.new.lines c.take_line.new.modes at c.in-Err-take_line.ensures.takes

pub returns-in-Err-take_line-clause-taken : goal.returns-in-Err-take_line-clause-taken
returns-in-Err-take_line-clause-taken g c =
    let reading = reading_on c.args.t.now c.lines.lines c.next.new.self (take c.lines.done c.lines.modes) (g.R.Source.rest c.args.src.now) (g.R.Source.rest c.lines.src) (g.R.Source.rest c.next.new.src) c.lines.invariant.0 c.next.ensures.reads in
    loses_front c.args.t.now c.next.new.self c.lines.modes c.lines.done (g.R.Source.rest c.args.src.now) (g.R.Source.rest c.next.new.src) reading c.next.ensures.place c.next.ensures.few
