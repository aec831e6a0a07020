use Rattle.std.proofs.Common.{◌+◌}
use Rattle.htl_load.specs.Unfit.{FitBetween}
use Rattle.htl_load.proofs.functions.first_unfit_output.Given as goal

abbrev pub invariant-loop-j : goal.invariant-loop-j
invariant-loop-j l = FitBetween l.t l.first (l.first + l.j)
