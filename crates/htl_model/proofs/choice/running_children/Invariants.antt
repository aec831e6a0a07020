use Rattle.std.proofs.Common.{◌≤◌, length}
use Rattle.htl_model.specs.Chosen.{AreChildrenFrom}
use Rattle.htl_model.proofs.choice.running_children.Given as goal

abbrev pub invariant-loop-n : goal.invariant-loop-n
invariant-loop-n l = (l.n ≤ length l.invs) × AreChildrenFrom l.t l.modes l.children l.n

abbrev pub decreases-loop-n : goal.decreases-loop-n
decreases-loop-n l = l.n
