use Rattle.std.proofs.Common.{◌≡◌, ℕ, ◌<◌, get_or, pos}
use Rattle.htl_edf.proofs.Words.{jobs_of, no_window, release_at, end_at}
use Rattle.htl_edf.proofs.rounds.fill.Given as goal

abbrev pub invariant-loop-q : goal.invariant-loop-q
invariant-loop-q l =
    record {
      releases : (p : ℕ) → p < l.q → (get_or l.out p no_window).release ≡ pos (release_at (jobs_of l.jobs) 0 p);
      ends : (p : ℕ) → p < l.q → (get_or l.out p no_window).end ≡ end_at (jobs_of l.jobs) 0 p;
    }
