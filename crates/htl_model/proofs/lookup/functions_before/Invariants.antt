use Rattle.std.proofs.Common.{◌≡◌, ◌≤◌, ◌*◌}
use Rattle.htl_model.specs.Tables.{count_before}
use Rattle.htl_model.proofs.lookup.functions_before.Given as goal

abbrev pub invariant-loop-k : goal.invariant-loop-k
invariant-loop-k l = (l.sum ≡ count_before l.k l.tasks) × (l.sum ≤ 256 * l.k)
