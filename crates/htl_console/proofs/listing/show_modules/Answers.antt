use Rattle.std.proofs.Common.{arith, add-one}
use Rattle.htl_console.specs.Listing.{module_line}
use Rattle.htl_console.proofs.Writing.{IsWriting-step, IsWriting-cut}
use Rattle.htl_console.proofs.listing.show_modules.Goals as goal

pub loop-k-preserved : goal.loop-k-preserved
loop-k-preserved g c =
    rw add-one
    (IsWriting-step (λ k x. module_line c.args.t.now x) c.args.modules.now c.loop-k.k c.index-modules-k.result _ _ _ _ _ _ _ (omega arith) c.index-modules-k.is c.loop-k.invariant c.in_default.ensures)

pub returns-in-Err : goal.returns-in-Err
returns-in-Err g c =
    IsWriting-cut (λ k x. module_line c.args.t.now x) c.args.modules.now c.loop-k.k c.index-modules-k.result _ _ _ _ _ _ _ _ (omega arith) c.index-modules-k.is c.loop-k.invariant c.in-Err.ensures
