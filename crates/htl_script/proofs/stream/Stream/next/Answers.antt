use Rattle.std.proofs.Common.{◌≡◌, Bool, None, Some, Option, Ok, Err, refl, ap, ◌∙◌, subst, arith}
use Rattle.htl_script.proofs.{Words.Event, Words.Past, Words.Place, Words.Goes, Words.Ahead, Words.AnswersLine, Words.TakesLine, Words.ahead_of, SoFar.so_far_none, SoFar.so_far_on, Taken.taken_as, Taken.taken_judged, Taken.taken_on}
use Rattle.htl_script.proofs.Streaming.{goes_on, gives_none, gives_event, gives_fault, gives_stop, gives_end}
use Rattle.htl_script.proofs.stream.Stream.next.Goals as goal

pub lines-init : goal.lines-init
lines-init g c = (so_far_none c.args.names.now c.args.self.now (g.R.Source.rest c.args.src.now), refl, omega arith, refl)

pub returns-in-Ok-false-clause-answer : goal.returns-in-Ok-false-clause-answer
returns-in-Ok-false-clause-answer g c =
    let now = ahead_of c.next.new.self c.self.inside.past in
    let so_far = so_far_on c.args.names.now c.args.self.now c.lines.self c.self.inside.past c.self.inside.lines c.next.new.self (g.R.Source.rest c.args.src.now) (g.R.Source.rest c.lines.src) (g.R.Source.rest c.next.new.src)
    c.self.view_is c.lines.invariant.0 c.next.ensures.reads c.next.ensures.place c.next.ensures.few in
    gives_end c.args.names.now c.args.self.now now (g.R.Source.rest c.args.src.now) (g.R.Source.rest c.next.new.src) so_far.gives c.end.result (subst (λ (o : Bool). AnswersLine c.next.new.self (Ok o)) c.in-Ok-false.field-0-test c.in-Ok-false.ensures.answer) c.end.ensures

pub returns-in-Ok-false-clause-taken : goal.returns-in-Ok-false-clause-taken
returns-in-Ok-false-clause-taken g c =
    let now = ahead_of c.next.new.self c.self.inside.past in
    let so_far = so_far_on c.args.names.now c.args.self.now c.lines.self c.self.inside.past c.self.inside.lines c.next.new.self (g.R.Source.rest c.args.src.now) (g.R.Source.rest c.lines.src) (g.R.Source.rest c.next.new.src)
    c.self.view_is c.lines.invariant.0 c.next.ensures.reads c.next.ensures.place c.next.ensures.few in
    taken_as c.args.self.now now (g.R.Source.rest c.args.src.now) (g.R.Source.rest c.next.new.src) tt c.end.result so_far.takes

pub returns-in-Err-clause-answer : goal.returns-in-Err-clause-answer
returns-in-Err-clause-answer g c =
    let now = ahead_of c.next.new.self c.self.inside.past in
    let so_far = so_far_on c.args.names.now c.args.self.now c.lines.self c.self.inside.past c.self.inside.lines c.next.new.self (g.R.Source.rest c.args.src.now) (g.R.Source.rest c.lines.src) (g.R.Source.rest c.next.new.src)
    c.self.view_is c.lines.invariant.0 c.next.ensures.reads c.next.ensures.place c.next.ensures.few in
    gives_stop c.args.names.now c.args.self.now now (g.R.Source.rest c.args.src.now) (g.R.Source.rest c.next.new.src) so_far.gives c.in-Err.stop c.in-Err.ensures.answer

pub returns-in-Err-clause-taken : goal.returns-in-Err-clause-taken
returns-in-Err-clause-taken g c =
    let now = ahead_of c.next.new.self c.self.inside.past in
    let so_far = so_far_on c.args.names.now c.args.self.now c.lines.self c.self.inside.past c.self.inside.lines c.next.new.self (g.R.Source.rest c.args.src.now) (g.R.Source.rest c.lines.src) (g.R.Source.rest c.next.new.src)
    c.self.view_is c.lines.invariant.0 c.next.ensures.reads c.next.ensures.place c.next.ensures.few in
    taken_as c.args.self.now now (g.R.Source.rest c.args.src.now) (g.R.Source.rest c.next.new.src) tt (Err c.in-Err.stop) so_far.takes

pub returns-in-Ok-Some-clause-answer : goal.returns-in-Ok-Some-clause-answer
returns-in-Ok-Some-clause-answer g c =
    let now = ahead_of c.next.new.self c.self.inside.past in
    let so_far = so_far_on c.args.names.now c.args.self.now c.lines.self c.self.inside.past c.self.inside.lines c.next.new.self (g.R.Source.rest c.args.src.now) (g.R.Source.rest c.lines.src) (g.R.Source.rest c.next.new.src)
    c.self.view_is c.lines.invariant.0 c.next.ensures.reads c.next.ensures.place c.next.ensures.few in
    let at = subst (λ (o : Bool). AnswersLine c.next.new.self (Ok o)) c.in-Ok-true.field-0-test c.in-Ok-true.ensures.answer in
    let took = subst (λ (o : Option Event). TakesLine c.args.names.now now c.take_line.new.self (Ok o)) c.in-Ok-Some.field-0-is c.in-Ok-Some.ensures in
    gives_event c.args.names.now c.args.self.now now (g.R.Source.rest c.args.src.now) (g.R.Source.rest c.next.new.src) so_far.gives c.take_line.new.self c.in-Ok-Some.event at took

pub returns-in-Ok-Some-clause-taken : goal.returns-in-Ok-Some-clause-taken
returns-in-Ok-Some-clause-taken g c =
    let now = ahead_of c.next.new.self c.self.inside.past in
    let so_far = so_far_on c.args.names.now c.args.self.now c.lines.self c.self.inside.past c.self.inside.lines c.next.new.self (g.R.Source.rest c.args.src.now) (g.R.Source.rest c.lines.src) (g.R.Source.rest c.next.new.src)
    c.self.view_is c.lines.invariant.0 c.next.ensures.reads c.next.ensures.place c.next.ensures.few in
    let took = subst (λ (o : Option Event). TakesLine c.args.names.now now c.take_line.new.self (Ok o)) c.in-Ok-Some.field-0-is c.in-Ok-Some.ensures in
    taken_judged c.args.names.now c.args.self.now now c.take_line.new.self (g.R.Source.rest c.args.src.now) (g.R.Source.rest c.next.new.src) tt (Ok (Some c.in-Ok-Some.event)) took so_far.takes

pub returns-in-Ok-Some-clause-event : goal.returns-in-Ok-Some-clause-event
returns-in-Ok-Some-clause-event g c =
    let now = ahead_of c.next.new.self c.self.inside.past in
    let took = subst (λ (o : Option Event). TakesLine c.args.names.now now c.take_line.new.self (Ok o)) c.in-Ok-Some.field-0-is c.in-Ok-Some.ensures in
    let past : c.self.inside.past ≡ c.args.self.now.here.past = ap (λ (z : Ahead). z.here.past) c.self.view_is ∙ c.lines.invariant.1 in
    subst (λ (p : Past). Goes c.args.names.now p c.take_line.new.self.here.past (Ok (Some c.in-Ok-Some.event))) past (goes_on c.args.names.now now c.take_line.new.self c.in-Ok-Some.event took)

pub lines-preserved : goal.lines-preserved
lines-preserved g c =
    let now = ahead_of c.next.new.self c.self.inside.past in
    let so_far = so_far_on c.args.names.now c.args.self.now c.lines.self c.self.inside.past c.self.inside.lines c.next.new.self (g.R.Source.rest c.args.src.now) (g.R.Source.rest c.lines.src) (g.R.Source.rest c.next.new.src)
    c.self.view_is c.lines.invariant.0 c.next.ensures.reads c.next.ensures.place c.next.ensures.few in
    let at = subst (λ (o : Bool). AnswersLine c.next.new.self (Ok o)) c.in-Ok-true.field-0-test c.in-Ok-true.ensures.answer in
    let took = subst (λ (o : Option Event). TakesLine c.args.names.now now c.take_line.new.self (Ok o)) c.in-Ok-None.field-0-is c.in-Ok-None.ensures in (
      record {
        gives = gives_none c.args.names.now c.args.self.now now (g.R.Source.rest c.args.src.now) (g.R.Source.rest c.next.new.src) so_far.gives c.take_line.new.self at took;
        takes = taken_on c.args.self.now c.take_line.new.self (g.R.Source.rest c.args.src.now) (g.R.Source.rest c.next.new.src) None tt (taken_judged c.args.names.now c.args.self.now now c.take_line.new.self (g.R.Source.rest c.args.src.now) (g.R.Source.rest c.next.new.src) tt (Ok None) took so_far.takes);
      },
      ap (λ (z : Ahead). z.here.past) took.1 ∙ ap (λ (z : Ahead). z.here.past) c.self.view_is ∙ c.lines.invariant.1,
      omega (arith, ap (λ (z : Ahead). z.here.number) took.1, ap (λ (z : Ahead). z.here.number) c.self.view_is, ap (λ (p : Place). p.number) c.next.ensures.reads.place, c.lines.invariant.2),
      c.in-Ok-true.ensures.kept (λ stopped. cc) ∙ c.lines.invariant.3,
    )

pub returns-in-Err-take_line-clause-answer : goal.returns-in-Err-take_line-clause-answer
returns-in-Err-take_line-clause-answer g c =
    let now = ahead_of c.next.new.self c.self.inside.past in
    let so_far = so_far_on c.args.names.now c.args.self.now c.lines.self c.self.inside.past c.self.inside.lines c.next.new.self (g.R.Source.rest c.args.src.now) (g.R.Source.rest c.lines.src) (g.R.Source.rest c.next.new.src)
    c.self.view_is c.lines.invariant.0 c.next.ensures.reads c.next.ensures.place c.next.ensures.few in
    let at = subst (λ (o : Bool). AnswersLine c.next.new.self (Ok o)) c.in-Ok-true.field-0-test c.in-Ok-true.ensures.answer in
    gives_fault c.args.names.now c.args.self.now now (g.R.Source.rest c.args.src.now) (g.R.Source.rest c.next.new.src) so_far.gives c.take_line.new.self c.in-Err-take_line.stop at c.in-Err-take_line.ensures

pub returns-in-Err-take_line-clause-taken : goal.returns-in-Err-take_line-clause-taken
returns-in-Err-take_line-clause-taken g c =
    let now = ahead_of c.next.new.self c.self.inside.past in
    let so_far = so_far_on c.args.names.now c.args.self.now c.lines.self c.self.inside.past c.self.inside.lines c.next.new.self (g.R.Source.rest c.args.src.now) (g.R.Source.rest c.lines.src) (g.R.Source.rest c.next.new.src)
    c.self.view_is c.lines.invariant.0 c.next.ensures.reads c.next.ensures.place c.next.ensures.few in
    taken_judged c.args.names.now c.args.self.now now c.take_line.new.self (g.R.Source.rest c.args.src.now) (g.R.Source.rest c.next.new.src) tt (Err c.in-Err-take_line.stop) c.in-Err-take_line.ensures so_far.takes
