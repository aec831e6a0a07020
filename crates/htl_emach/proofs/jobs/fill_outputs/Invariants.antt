use Rattle.std.proofs.Common.{◌≡◌, ◌++◌, [], get_or, set, drop}
use Rattle.htl_emach.proofs.Words.{list_to, function_value, output_function}
use Rattle.htl_emach.proofs.jobs.fill_outputs.Given as goal

abbrev pub invariant-loop-k : goal.invariant-loop-k
invariant-loop-k l =
    l.outputs ≡ set l.initial.outputs l.row (list_to (λ j. function_value l.t (output_function l.t l.task j) l.args) l.k ++ drop l.k (get_or l.initial.outputs l.row []))
