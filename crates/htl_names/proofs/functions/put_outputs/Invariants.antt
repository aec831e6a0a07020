use Rattle.std.proofs.Common.{◌≡◌, ◌++◌, drop, map}
use Rattle.htl_names.proofs.Words.{fun_of, out_of, flat_output_function}
use Rattle.htl_names.proofs.functions.put_outputs.Given as goal

abbrev pub invariant-loop-k : goal.invariant-loop-k
invariant-loop-k l =
    map fun_of l.into.items ++ map (flat_output_function l.source.layout.now l.at.program l.at.«module» l.task) (map out_of (drop l.k l.outs))
    ≡ map fun_of l.initial.into.items ++ map (flat_output_function l.source.layout.now l.at.program l.at.«module» l.task) (map out_of l.outs)
