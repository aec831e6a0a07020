use Rattle.std.proofs.Common.{◌≡◌, ℕ, ◌<◌, get_or}
use Rattle.htl_edf.specs.Ranks.{item, number_of, release_time}
use Rattle.htl_edf.proofs.ranks.fill_releases.Given as goal

abbrev pub invariant-loop-rank : goal.invariant-loop-rank
invariant-loop-rank l = (r : ℕ) → r < l.rank → get_or l.items r 0 ≡ item (release_time l.jobs (number_of l.by_end r)) r
