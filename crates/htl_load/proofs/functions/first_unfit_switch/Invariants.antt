use Rattle.std.proofs.Common.{◌+◌}
use Rattle.htl_load.specs.Unfit.{FitBetween}
use Rattle.htl_load.proofs.functions.first_unfit_switch.Given as goal

abbrev pub invariant-loop-k : goal.invariant-loop-k
invariant-loop-k l = FitBetween l.t 0 (l.first + l.k)
