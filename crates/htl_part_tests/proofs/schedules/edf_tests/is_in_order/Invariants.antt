use Rattle.std.proofs.Common.{ℕ, ◌≡◌, ◌<◌, true, get_or}
use Rattle.htl_edf.specs.Lists.{jobs_of}
use Rattle.htl_part_tests.proofs.schedules.edf_tests.is_in_order.Given as goal

abbrev pub invariant-loop-p : goal.invariant-loop-p
invariant-loop-p l = (i : ℕ) → i < l.p → (jobs_of l.jobs).before i l.q ≡ true → get_or l.places i 0 < get_or l.places l.q 0
