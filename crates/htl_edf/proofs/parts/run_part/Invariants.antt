use Rattle.std.proofs.Common.{◌≡◌, ◌≤◌, ◌-◌, true, length}
use Rattle.htl_edf.proofs.Words.{jobs_of, LeftAt, AreInTime, tight, edf, closed_of, open_of, slices_from, IsAhead}
use Rattle.htl_edf.proofs.parts.run_part.Given as goal

abbrev pub invariant-loop-t : goal.invariant-loop-t
invariant-loop-t l = record {
  long : length l.left ≡ length l.ranks.jobs.now;
  lefts : LeftAt l.ranks.jobs.now l.left l.t;
  past : l.from ≤ l.t;
  within : l.t ≤ l.to;
  until : l.ahead.until ≤ l.to;
  ahead : IsAhead l.ranks.jobs.now l.ranks.by_end.now l.ranks.by_release.now l.left l.t l.ahead.until l.ahead.ready l.ahead.released;
  in_time : l.is_in_time ≡ true → (l.was_in_time ≡ true) × AreInTime l.ranks.jobs.now l.from l.t;
  closed : l.instrs.items ≡ closed_of (slices_from (edf (tight (jobs_of l.ranks.jobs.now))) l.from (l.t - l.from));
  last : l.last ≡ open_of (slices_from (edf (tight (jobs_of l.ranks.jobs.now))) l.from (l.t - l.from));
}

abbrev pub decreases-loop-t : goal.decreases-loop-t
decreases-loop-t l = l.to - l.t
