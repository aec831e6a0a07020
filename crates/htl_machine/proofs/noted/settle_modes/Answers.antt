use Rattle.std.proofs.Common.{length, None, arith, ap, sym, ◌∙◌}
use Rattle.htl_machine.proofs.Settling.{settling_start, settling_step, settling_end, list_is, modes_other}
use Rattle.htl_machine.proofs.noted.settle_modes.Goals as goal

pub loop-k-init : goal.loop-k-init
loop-k-init c =
    (settling_start None c.args.decided.now c.args.modes.now c.args.m.now.calendar.modes c.next-k.result c.requires.count (modes_other c.args.decided.now c.args.modes.now c.args.m.now.calendar.modes c.requires.same) c.next-k.ensures.skipped, c.next-k.ensures.high)

pub loop-k-preserved : goal.loop-k-preserved
loop-k-preserved c = (
  settling_step None c.args.decided.now c.loop-k.modes c.args.m.now.calendar.modes c.set.new.self c.loop-k.k c.next-k-in-loop-k.result c.mode.result c.loop-k.invariant.0
      (omega (arith, c.loop-k-test.true, ap length c.as_slice-count.ensures, c.loop-k.invariant.0.long, c.requires.count)) c.set.ensures (c.mode.ensures ∙ sym (list_is c.args.m.now.calendar.modes c.loop-k.k)) c.next-k-in-loop-k.ensures.skipped,
  c.next-k-in-loop-k.ensures.high,
)

pub returns : goal.returns
returns c =
    settling_end None c.args.decided.now c.loop-k.modes c.args.m.now.calendar.modes c.loop-k.k c.loop-k.invariant.0
    (omega (arith, c.loop-k-test.false, ap length c.as_slice-count.ensures, c.loop-k.invariant.0.long, c.requires.count))
