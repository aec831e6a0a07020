use Rattle.std.proofs.Common.{◌≡◌, ◌++◌}
use Rattle.std.specs.Vec.Iter.{into_iter_items}
use Rattle.htl_adapters.proofs.words.all.Given as goal

abbrev pub invariant-loop-arg : goal.invariant-loop-arg
invariant-loop-arg l = l.held.items ++ into_iter_items l.arg-iterator ≡ into_iter_items l.fn.args
