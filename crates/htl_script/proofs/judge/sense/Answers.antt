use Rattle.std.proofs.Common.{◌≡◌, ◌∙◌, sym, ap, ℤ, Result, Ok, rules, Option}
use Rattle.htl_script.proofs.{Words.Event, Words.ScriptKind, Words.signed_of, Words.is_value, Words.Ty, Judged.sense_range, Judged.sense_value}
use Rattle.htl_model.specs.declared.event.Event.TheVariants as event
use Rattle.htl_script.proofs.judge.sense.Goals as goal

pub returns-in_default-value_of : goal.returns-in_default-value_of
returns-in_default-value_of c =
    sense_range c.args.names.now c.args.past c.args.name.now (signed_of c.args.digits.now) c.in-Some.minus c.in-Some.size c.in-Some-sensor.comm
    (sym c.in-Some.is ∙ c.signed.ensures) (sym c.sensor.ensures ∙ c.in-Some-sensor.is)
    (sym (ap (λ (type : Option Ty). is_value (c.in-Some.minus, c.in-Some.size) type) c.type_of.ensures) ∙ c.in_default-value_of.ensures)

pub returns : goal.returns
returns c =
    let event_is : c.sensed.result ≡ event.Sense c.in-Some-sensor.comm c.in-Some-value_of.x = search rules in
    let told : Event → Result Event ScriptKind = λ e. Ok e in
    ap told (event_is ∙ ap (λ (x : ℤ). event.Sense c.in-Some-sensor.comm x) c.in-Some-value_of.ensures.1)
    ∙ sense_value c.args.names.now c.args.past c.args.name.now (signed_of c.args.digits.now) c.in-Some.minus c.in-Some.size c.in-Some-sensor.comm
    (sym c.in-Some.is ∙ c.signed.ensures) (sym c.sensor.ensures ∙ c.in-Some-sensor.is)
    (sym (ap (λ (type : Option Ty). is_value (c.in-Some.minus, c.in-Some.size) type) c.type_of.ensures) ∙ c.in-Some-value_of.ensures.0)
    c.if-is_none.ensures
