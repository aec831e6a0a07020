use Rattle.std.proofs.Common.{◌≡◌, ℕ, ◌<◌, get_or}
use Rattle.htl_walk.specs.Jobs.{absent_job}
use Rattle.htl_edf.proofs.events.start.Given as goal

abbrev pub invariant-loop-q : goal.invariant-loop-q
invariant-loop-q l = (p : ℕ) → p < l.q → get_or l.left p 0 ≡ (get_or l.jobs p absent_job).worst
