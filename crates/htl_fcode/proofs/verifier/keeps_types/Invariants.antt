use Rattle.std.proofs.Common.{◌≡◌, [], drop}
use Rattle.htl_fcode.specs.Stacks.{types_run}
use Rattle.htl_fcode.proofs.verifier.keeps_types.Given as goal

abbrev pub invariant-loop-instr : goal.invariant-loop-instr
invariant-loop-instr l = types_run l.types (drop l.instr-index l.instrs) l.stack ≡ types_run l.types l.instrs []
