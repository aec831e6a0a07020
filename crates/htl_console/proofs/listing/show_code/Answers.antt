use Rattle.std.proofs.{Common.arith, Common.add-one, lemmas.List.get_or_default}
use Rattle.htl_console.specs.Listing.{code_line}
use Rattle.htl_console.proofs.Writing.{IsWriting-step, IsWriting-cut}
use Rattle.htl_console.proofs.listing.show_code.Goals as goal

pub loop-k-preserved : goal.loop-k-preserved
loop-k-preserved g c =
    rw add-one
    (IsWriting-step (code_line c.args.t.now) c.args.instrs.now c.loop-k.k _ _ _ _ _ _ _ _ (omega arith) (get_or_default c.args.instrs.now c.loop-k.k _ _ (omega arith)) c.loop-k.invariant c.in_default.ensures)

pub returns-in-Err : goal.returns-in-Err
returns-in-Err g c =
    IsWriting-cut (code_line c.args.t.now) c.args.instrs.now c.loop-k.k _ _ _ _ _ _ _ _ _ (omega arith) (get_or_default c.args.instrs.now c.loop-k.k _ _ (omega arith)) c.loop-k.invariant c.in-Err.ensures
