-- Windows that stay as they are over longer chains, since all that they depend on does.
use Rattle.std.specs.Prelude.{◌≡◌, ℕ, ◌<◌, ◌≤◌, false, List, length, get_or, pos}
use Rattle.htl_model.specs.Bits.{has_bit, cell}
use Rattle.htl_walk.specs.declared.job.Job.{Job}
use Rattle.htl_edf.specs.{declared.rounds.Tight.Tight, Tight.release_at, Tight.end_at, Lists.jobs_of, Lists.no_window}

-- the rows have for each position a bit for each of its predecessors
abbrev pub ArePredecessors : List Job → List ℕ → Type 0
ArePredecessors js rows = (p q : ℕ) → q < length js → cell rows q p ≡ (jobs_of js).before p q

-- the releases of the positions that no longer wait, over chains of k predecessors and of any more
abbrev pub HaveReleases : List Job → List Tight → ℕ → ℕ → Type 0
HaveReleases js ts waiting k = (q m : ℕ) → q < length js → has_bit waiting q ≡ false → k ≤ m → (get_or ts q no_window).release ≡ pos (release_at (jobs_of js) m q)

-- and the ends, over chains of successors
abbrev pub HaveEnds : List Job → List Tight → ℕ → ℕ → Type 0
HaveEnds js ts waiting k = (p m : ℕ) → p < length js → has_bit waiting p ≡ false → k ≤ m → (get_or ts p no_window).end ≡ end_at (jobs_of js) m p
