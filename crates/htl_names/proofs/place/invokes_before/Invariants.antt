use Rattle.std.proofs.Common.{◌≡◌}
use Rattle.htl_names.proofs.Words.{tree_of, invokes_before}
use Rattle.htl_names.proofs.place.invokes_before.Given as goal

abbrev pub invariant-loop-k : goal.invariant-loop-k
invariant-loop-k l = l.count ≡ invokes_before l.source.layout.now (tree_of l.source.tree.now) l.k
