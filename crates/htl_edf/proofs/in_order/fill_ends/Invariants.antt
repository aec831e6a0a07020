use Rattle.std.proofs.Common.{◌≡◌, ℕ, length, get_or}
use Rattle.htl_edf.proofs.Words.{no_window, HaveEnds}
use Rattle.htl_edf.proofs.in_order.fill_ends.Given as goal

abbrev pub invariant-loop-k : goal.invariant-loop-k
invariant-loop-k l =
    record {
      same : length l.out ≡ length l.jobs;
      kept : (q : ℕ) → (get_or l.out q no_window).release ≡ (get_or l.fn.out q no_window).release;
      have : HaveEnds l.jobs l.out l.turns.waiting l.k;
    }
