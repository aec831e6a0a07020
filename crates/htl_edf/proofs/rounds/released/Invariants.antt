use Rattle.std.proofs.Common.{◌≡◌, ◌+◌, ◌-◌, ◌<◌, ◌≤◌, true, length, pos}
use Rattle.htl_edf.proofs.Words.{jobs_of, release_at, greatest_below}
use Rattle.htl_edf.proofs.rounds.released.Given as goal

abbrev pub invariant-loop-p : goal.invariant-loop-p
invariant-loop-p l =
    let j = jobs_of l.jobs in
    record {
      within : l.p ≤ length l.jobs;
      found : l.p < length l.jobs → j.before l.p l.q ≡ true;
      latest : l.latest ≡ pos (greatest_below (λ p. j.before p l.q) (λ p. release_at j l.k p + j.worst p) (j.release l.q) l.p);
    }

abbrev pub decreases-loop-p : goal.decreases-loop-p
decreases-loop-p l = length l.jobs - l.p
