use Rattle.std.proofs.Common.{◌≡◌, ◌≤◌, ◌*◌}
use Rattle.htl_patch.proofs.Words.{list_to, count_before, first_function}
use Rattle.htl_patch.proofs.functions.firsts.Given as goal

abbrev pub invariant-loop-k : goal.invariant-loop-k
invariant-loop-k l = (l.found.items ≡ list_to (first_function l.t) l.k) × (l.sum ≡ count_before l.k l.t.tasks) × (l.sum ≤ 256 * l.k)
