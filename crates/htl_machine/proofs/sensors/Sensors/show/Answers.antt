use Rattle.std.proofs.Common.{◌≡◌, ◌<◌, List, Some, ℤ, get_or, pos, ap, arith, length, slice_get, sym, subst, refl, ◌∙◌}
use Rattle.htl_model.specs.Ranges.{FitsType}
use Rattle.htl_emach.proofs.Keeping.{takes_value}
use Rattle.htl_machine.proofs.{Words.slice_get_read, Words.AreSet, Words.Content, Waits.taking_start, Waits.taking_step}
use Rattle.htl_machine.proofs.sensors.Sensors.show.Goals as goal

pub loop-c-init : goal.loop-c-init
loop-c-init c =
    let same = c.as_slice-comms.ensures ∙ sym (ap (λ z. z.comms) c.parts.ensures.value) in (
      taking_start c.args.t.now c.args.noted.now.values c.args.at c.args.self.now c.args.world.now c.args.noted.now c.requires.before c.first-c.result c.requires.shaped.values.count c.requires.waiting c.first-c.ensures.skipped,
      omega (arith, c.first-c.ensures.high, ap length same),
    )

pub take-requires-clause-sensor : goal.take-requires-clause-sensor
take-requires-clause-sensor c = λ sensor.
    let same = c.as_slice-comms.ensures ∙ sym (ap (λ z. z.comms) c.parts.ensures.value) in
    let here = c.loop-c.invariant.0 in
    let at : slice_get c.args.t.now.comms c.loop-c.c ≡ Some c.index-comms-c.result =
    ap (λ xs. slice_get xs c.loop-c.c) (sym same) ∙ slice_get_read c.as_slice-comms.result.now (length c.as_slice-comms.result.now) c.loop-c.c c.index-comms-c.result refl c.loop-c-test.true c.index-comms-c.is in
    takes_value c.args.t.now c.loop-c.world c.loop-c.c c.index-comms-c.result _ (ap (λ (w : Content). w.index) here.set.only ∙ c.requires.shaped.index) at sensor
    (subst (λ (vs : List ℤ). FitsType c.index-comms-c.result.ty (get_or vs c.loop-c.c (pos 0))) (sym here.shows) (c.requires.shows.fit c.loop-c.c c.index-comms-c.result at))

pub loop-c-preserved : goal.loop-c-preserved
loop-c-preserved c =
    let same = c.as_slice-comms.ensures ∙ sym (ap (λ z. z.comms) c.parts.ensures.value) in
    let room : c.loop-c.c < length c.args.t.now.comms = omega (arith, c.loop-c-test.true, ap length same) in (
      taking_step c.args.t.now c.args.noted.now.values c.args.at c.args.self.now c.args.world.now c.args.noted.now c.requires.before c.loop-c.self c.take.new.self c.loop-c.world c.take.new.world c.loop-c.noted c.take.new.noted c.loop-c.c
          c.first-c-in-loop-c.result c.index-comms-c.result c.loop-c.invariant.0
          (ap (λ xs. slice_get xs c.loop-c.c) (sym same) ∙ slice_get_read c.as_slice-comms.result.now (length c.as_slice-comms.result.now) c.loop-c.c c.index-comms-c.result refl c.loop-c-test.true c.index-comms-c.is) room
          c.take.ensures.world c.take.ensures.shows c.take.ensures.waiting c.take.ensures.written c.take.ensures.decided c.take.ensures.kept c.first-c-in-loop-c.ensures.skipped c.first-c-in-loop-c.ensures.low,
      omega (arith, c.first-c-in-loop-c.ensures.high, ap length same),
    )

pub returns-clause-shown : goal.returns-clause-shown
returns-clause-shown c =
    let same = c.as_slice-comms.ensures ∙ sym (ap (λ z. z.comms) c.parts.ensures.value) in
    let all : c.loop-c.c ≡ length c.args.t.now.comms = omega (arith, ap length same, c.loop-c-test.false, c.loop-c.invariant.1) in
    subst (λ n. AreSet c.args.t.now c.args.self.now.shows c.args.noted.now.values c.args.at c.args.world.now c.loop-c.world n) all c.loop-c.invariant.0.set
