use Rattle.std.proofs.Common.{◌≡◌, ◌<◌, ◌&&◌, ℕ, ltb, length}
use Rattle.htl_edf.proofs.Words.{cell, jobs_of}
use Rattle.htl_edf.proofs.rounds.fill_successors.Given as goal

abbrev pub invariant-loop-q : goal.invariant-loop-q
invariant-loop-q l =
    record {
      len : length l.successors ≡ length l.initial.successors;
      says : (p r : ℕ) → p < length l.initial.successors → cell l.successors p r ≡ (ltb r l.q && (jobs_of l.jobs).before p r);
    }
