use Rattle.std.proofs.Common.{◌≡◌, ◌++◌, drop}
use Rattle.htl_names.proofs.Words.{edge_targets}
use Rattle.htl_names.proofs.programs.put_targets.Given as goal

abbrev pub invariant-loop-k : goal.invariant-loop-k
invariant-loop-k l = l.into.items ++ edge_targets (drop l.k l.row) ≡ l.initial.into.items ++ edge_targets l.row
