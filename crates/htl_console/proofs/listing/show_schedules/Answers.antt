use Rattle.std.proofs.Common.{arith, add-one}
use Rattle.htl_console.specs.Listing.{schedule_lines}
use Rattle.htl_console.proofs.Writing.{IsWriting-step, IsWriting-cut}
use Rattle.htl_console.proofs.listing.show_schedules.Goals as goal

pub loop-k-preserved : goal.loop-k-preserved
loop-k-preserved g c =
    rw add-one
    (IsWriting-step (schedule_lines) c.args.schedules.now c.loop-k.k c.index-schedules-k.result _ _ _ _ _ _ _ (omega arith) c.index-schedules-k.is c.loop-k.invariant (rw (c.as_slice.ensures, ← c.index-schedules-k.is) at c.in_default.ensures))

pub returns-in-Err : goal.returns-in-Err
returns-in-Err g c =
    IsWriting-cut (schedule_lines) c.args.schedules.now c.loop-k.k c.index-schedules-k.result _ _ _ _ _ _ _ _ (omega arith) c.index-schedules-k.is c.loop-k.invariant (rw (c.as_slice.ensures, ← c.index-schedules-k.is) at c.in-Err.ensures)
