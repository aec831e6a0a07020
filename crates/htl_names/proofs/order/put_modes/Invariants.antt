use Rattle.std.proofs.Common.{◌≡◌, ◌++◌, drop}
use Rattle.htl_names.proofs.Words.{tree_of, mode_order}
use Rattle.htl_names.proofs.order.put_modes.Given as goal

abbrev pub invariant-loop-k : goal.invariant-loop-k
invariant-loop-k l = l.into.items ++ mode_order (tree_of l.tree) (drop l.k l.modules) ≡ l.initial.into.items ++ mode_order (tree_of l.tree) l.modules
