use Rattle.std.proofs.Common.{arith, add-one, get_or, None}
use Rattle.htl_console.proofs.Writing.{IsWriting-step, IsWriting-cut}
use Rattle.htl_times_top.specs.Texts.{time_line}
use Rattle.htl_times_top.proofs.text.put_rows.Goals as goal

pub loop-k-preserved : goal.loop-k-preserved
loop-k-preserved g c =
    rw add-one
    (IsWriting-step (λ i x. time_line c.args.t.now (get_or c.args.rows.now i None) i x) c.args.invs.now c.loop-k.k c.index-invs-k.result _ _ _ _ _ _ _ (omega arith) c.index-invs-k.is c.loop-k.invariant c.in_default.ensures)

pub returns-in-Err : goal.returns-in-Err
returns-in-Err g c =
    IsWriting-cut (λ i x. time_line c.args.t.now (get_or c.args.rows.now i None) i x) c.args.invs.now c.loop-k.k c.index-invs-k.result _ _ _ _ _ _ _ _ (omega arith) c.index-invs-k.is c.loop-k.invariant c.in-Err.ensures
