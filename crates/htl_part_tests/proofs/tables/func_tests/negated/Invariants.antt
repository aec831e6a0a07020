use Rattle.std.proofs.Common.{◌≡◌, ◌+◌}
use Rattle.htl_model.specs.{Functions.term_of, Small.ArgumentsBelow, Small.nodes}
use Rattle.htl_part_tests.proofs.tables.func_tests.negated.Given as goal

abbrev pub invariant-loop : goal.invariant-loop
invariant-loop l = (nodes (term_of l.e) ≡ l.counter + 1) × ArgumentsBelow 0 (term_of l.e)
