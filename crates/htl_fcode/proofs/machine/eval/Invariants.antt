use Rattle.std.proofs.Common.{◌≡◌, [], ◌∷◌, drop, Some}
use Rattle.htl_model.specs.Tables.{Compiled, fun}
use Rattle.htl_fcode.specs.Stacks.{values_run}
use Rattle.htl_fcode.proofs.machine.eval.Given as goal

-- what is left of the run ends with the function's value
abbrev pub invariant-loop-instr : goal.invariant-loop-instr
invariant-loop-instr l =
    values_run l.args (drop l.instr-index l.instr-items) l.stack ≡ Some (fun (Compiled l.v.code.now) l.args ∷ [])
