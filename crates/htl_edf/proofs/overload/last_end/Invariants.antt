use Rattle.std.proofs.Common.{◌≡◌, ◌<◌, length, MatchOption}
use Rattle.htl_edf.specs.Search.{last_of}
use Rattle.htl_edf.proofs.overload.last_end.Given as goal

abbrev pub invariant-loop-q : goal.invariant-loop-q
invariant-loop-q l = record { is : l.best ≡ last_of l.jobs l.q; below : MatchOption l.best Unit (λ p. p < length l.jobs) }
