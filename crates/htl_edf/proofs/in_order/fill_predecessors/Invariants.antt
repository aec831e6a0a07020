use Rattle.std.proofs.Common.{◌≡◌, ℕ, ◌<◌, length}
use Rattle.htl_edf.proofs.Words.{cell, jobs_of}
use Rattle.htl_edf.proofs.in_order.fill_predecessors.Given as goal

abbrev pub invariant-loop-q : goal.invariant-loop-q
invariant-loop-q l =
    record {
      len : length l.predecessors ≡ length l.fn.predecessors;
      says : (p r : ℕ) → r < l.q → cell l.predecessors r p ≡ (jobs_of l.jobs).before p r;
    }
