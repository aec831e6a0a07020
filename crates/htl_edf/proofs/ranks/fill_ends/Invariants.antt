use Rattle.std.proofs.Common.{◌≡◌, ℕ, ◌<◌, get_or}
use Rattle.htl_edf.specs.Ranks.{item, end_time}
use Rattle.htl_edf.proofs.ranks.fill_ends.Given as goal

abbrev pub invariant-loop-q : goal.invariant-loop-q
invariant-loop-q l = (p : ℕ) → p < l.q → get_or l.items p 0 ≡ item (end_time l.jobs p) p
