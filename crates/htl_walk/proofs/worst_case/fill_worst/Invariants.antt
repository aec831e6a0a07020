use Rattle.std.proofs.Common.{◌≡◌, ℕ, ◌<◌, get_or, ltb}
use Rattle.htl_walk.proofs.Words.{has_bit, worst_cases}
use Rattle.htl_walk.proofs.worst_case.fill_worst.Given as goal

abbrev pub invariant-loop-p : goal.invariant-loop-p
invariant-loop-p l =
    record {
      worst : (q : ℕ) → q < l.p → get_or l.left q 0 ≡ get_or (worst_cases l.jobs) q 0;
      pending : (q : ℕ) → has_bit l.pending q ≡ ltb q l.p;
    }
