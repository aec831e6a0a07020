use Rattle.std.proofs.Common.{ap, arith, length, slice_get, sym, refl, ◌∙◌}
use Rattle.std.proofs.lemmas.Option.{slice_get_read}
use Rattle.htl_machine.proofs.Waits.{nothing_start, nothing_step}
use Rattle.htl_machine.proofs.sensors.Sensors.next.Goals as goal

pub loop-c-init : goal.loop-c-init
loop-c-init c =
    let same = c.as_slice-comms.ensures ∙ sym (ap (λ z. z.comms) c.parts.ensures.value) in
    record {
      nothing = nothing_start c.args.t.now c.args.self.now c.args.world.now.values c.args.from c.args.to c.first-c.result c.requires.waiting c.first-c.ensures.skipped;
      low = c.requires.order;
      high = omega arith;
      within = omega (arith, c.first-c.ensures.high, ap length same);
    }

pub loop-c-preserved : goal.loop-c-preserved
loop-c-preserved c =
    let same = c.as_slice-comms.ensures ∙ sym (ap (λ z. z.comms) c.parts.ensures.value) in
    record {
      nothing =
          nothing_step c.args.t.now c.args.self.now c.args.world.now.values c.as_slice-shows.result.now c.args.from c.loop-c.least c.next_of-next.result c.min-least.result c.loop-c.c c.first-c-in-loop-c.result c.index-comms-c.result
          c.requires.waiting c.loop-c.invariant.nothing c.as_slice-shows.ensures
          (ap (λ xs. slice_get xs c.loop-c.c) (sym same) ∙ slice_get_read c.as_slice-comms.result.now (length c.as_slice-comms.result.now) c.loop-c.c c.index-comms-c.result refl c.loop-c-test.true c.index-comms-c.is)
          c.next_of-next.ensures.same (omega (arith, c.min-least.ensures)) (omega (arith, c.min-least.ensures)) c.first-c-in-loop-c.ensures.skipped;
      low = omega (arith, c.min-least.ensures, c.loop-c.invariant.low, c.next_of-next.ensures.low);
      high = omega (arith, c.min-least.ensures, c.loop-c.invariant.high);
      within = omega (arith, c.first-c-in-loop-c.ensures.high, ap length same);
    }
