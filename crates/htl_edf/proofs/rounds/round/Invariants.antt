use Rattle.std.proofs.Common.{◌≡◌, ℕ, suc, ◌<◌, get_or, pos}
use Rattle.htl_edf.proofs.Words.{jobs_of, no_window, release_at, end_at}
use Rattle.htl_edf.proofs.rounds.round.Given as goal

abbrev pub invariant-loop-q : goal.invariant-loop-q
invariant-loop-q l =
    record {
      releases : (p : ℕ) → p < l.q → (get_or l.next p no_window).release ≡ pos (release_at (jobs_of l.jobs) (suc l.k) p);
      ends : (p : ℕ) → p < l.q → (get_or l.next p no_window).end ≡ end_at (jobs_of l.jobs) (suc l.k) p;
    }
