use Rattle.std.proofs.Common.{◌-◌, length}
use Rattle.htl_edf.proofs.ReadyRanks.{IsReleasing}
use Rattle.htl_edf.proofs.events.release_by.Given as goal

abbrev pub invariant-loop-n : goal.invariant-loop-n
invariant-loop-n l = IsReleasing l.ranks.jobs.now l.ranks.by_end.now l.ranks.by_release.now l.left l.t l.ready l.n

abbrev pub decreases-loop-n : goal.decreases-loop-n
decreases-loop-n l = length l.ranks.jobs.now - l.n
