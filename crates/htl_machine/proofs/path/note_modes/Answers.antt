use Rattle.std.proofs.Common.{length, ap, arith}
use Rattle.htl_machine.proofs.Modes.{one_noted}
use Rattle.htl_machine.proofs.path.note_modes.Goals as goal

pub loop-k-preserved : goal.loop-k-preserved
loop-k-preserved c =
    let done = one_noted c.loop-k.modes.modes c.args.m.now.calendar.modes c.set.new.self c.loop-k.k c.mode.result (omega (arith, ap length c.as_slice-count.ensures, c.requires.same)) c.loop-k.invariant.size c.loop-k.invariant.front c.mode.ensures c.set.ensures in
    record { front = done.0; size = done.1 }
