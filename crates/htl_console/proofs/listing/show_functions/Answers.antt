use Rattle.std.proofs.Common.{arith, add-one, map}
use Rattle.htl_model.specs.Tables.{fun_of}
use Rattle.htl_console.specs.Listing.{function_line}
use Rattle.htl_console.proofs.Writing.{IsWriting-step, IsWriting-cut, seen-at, seen-inside}
use Rattle.htl_console.proofs.listing.show_functions.Goals as goal

pub loop-k-preserved : goal.loop-k-preserved
loop-k-preserved g c =
    rw add-one
    (IsWriting-step (function_line) (map fun_of c.args.functions.now) c.loop-k.k (fun_of c.index-functions-k.result) _ _ _ _ _ _ _ (seen-inside fun_of c.args.functions.now c.loop-k.k (omega arith)) (seen-at fun_of c.args.functions.now c.loop-k.k c.index-functions-k.result (omega arith) c.index-functions-k.is) c.loop-k.invariant c.in_default.ensures)

pub returns-in-Err : goal.returns-in-Err
returns-in-Err g c =
    IsWriting-cut (function_line) (map fun_of c.args.functions.now) c.loop-k.k (fun_of c.index-functions-k.result) _ _ _ _ _ _ _ _ (seen-inside fun_of c.args.functions.now c.loop-k.k (omega arith)) (seen-at fun_of c.args.functions.now c.loop-k.k c.index-functions-k.result (omega arith) c.index-functions-k.is) c.loop-k.invariant c.in-Err.ensures
