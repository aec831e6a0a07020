use Rattle.std.proofs.Common.{ℕ, ◌≡◌, ◌<◌, true, length, get_or}
use Rattle.htl_edf.specs.Lists.{jobs_of}
use Rattle.htl_part_tests.proofs.schedules.edf_tests.are_in_order.Given as goal

abbrev pub invariant-loop-q : goal.invariant-loop-q
invariant-loop-q l =
    record {
      place : (q : ℕ) → q < l.q → get_or l.places q 0 < length l.jobs;
      preds : (p q : ℕ) → p < length l.jobs → q < l.q → (jobs_of l.jobs).before p q ≡ true → get_or l.places p 0 < get_or l.places q 0;
    }
