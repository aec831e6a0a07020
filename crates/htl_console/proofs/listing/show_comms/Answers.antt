use Rattle.std.proofs.Common.{arith, add-one}
use Rattle.htl_console.specs.Listing.{comm_line}
use Rattle.htl_console.proofs.Writing.{IsWriting-step, IsWriting-cut}
use Rattle.htl_console.proofs.listing.show_comms.Goals as goal

pub loop-k-preserved : goal.loop-k-preserved
loop-k-preserved g c =
    rw add-one
    (IsWriting-step (λ k x. comm_line x) c.args.comms.now c.loop-k.k c.index-comms-k.result _ _ _ _ _ _ _ (omega arith) c.index-comms-k.is c.loop-k.invariant c.in_default.ensures)

pub returns-in-Err : goal.returns-in-Err
returns-in-Err g c =
    IsWriting-cut (λ k x. comm_line x) c.args.comms.now c.loop-k.k c.index-comms-k.result _ _ _ _ _ _ _ _ (omega arith) c.index-comms-k.is c.loop-k.invariant c.in-Err.ensures
