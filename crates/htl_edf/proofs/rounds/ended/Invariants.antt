use Rattle.std.proofs.Common.{◌≡◌, ◌-◌, ◌<◌, ◌≤◌, true, length, pos, ◌-ℤ◌}
use Rattle.htl_edf.proofs.Words.{jobs_of, end_at, least_below}
use Rattle.htl_edf.proofs.rounds.ended.Given as goal

abbrev pub invariant-loop-q : goal.invariant-loop-q
invariant-loop-q l =
    let j = jobs_of l.jobs in
    record {
      within : l.q ≤ length l.jobs;
      found : l.q < length l.jobs → j.before l.p l.q ≡ true;
      earliest : l.earliest ≡ least_below (λ q. j.before l.p q) (λ q. end_at j l.k q -ℤ pos (j.worst q)) (pos (j.end l.p)) l.q;
    }

abbrev pub decreases-loop-q : goal.decreases-loop-q
decreases-loop-q l = length l.jobs - l.q
