use Rattle.std.proofs.Common.{◌≡◌}
use Rattle.htl_edf.specs.Search.{over, any_below}
use Rattle.htl_edf.proofs.overload.any_over.Given as goal

abbrev pub invariant-loop-p : goal.invariant-loop-p
invariant-loop-p l = l.found ≡ any_below (λ p. over l.jobs p l.q) l.p
