use Rattle.std.proofs.Common.{◌≡◌, ◌+◌, drop}
use Rattle.htl_patch.specs.Joining.{exceeded}
use Rattle.htl_patch.proofs.limits.exceeded.Given as goal

abbrev pub invariant-loop-k : goal.invariant-loop-k
invariant-loop-k l = exceeded (2 + l.k) (drop l.k l.sizes) ≡ exceeded 2 l.sizes
