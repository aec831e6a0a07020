use Rattle.std.proofs.Common.{◌≡◌, ◌<◌, length, MatchOption}
use Rattle.htl_edf.specs.Search.{first_of_end}
use Rattle.htl_edf.proofs.overload.first_release.Given as goal

abbrev pub invariant-loop-p : goal.invariant-loop-p
invariant-loop-p l = record { is : l.best ≡ first_of_end l.jobs l.q l.p; below : MatchOption l.best Unit (λ p. p < length l.jobs) }
