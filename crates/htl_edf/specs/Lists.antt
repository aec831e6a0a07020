-- Jobs of a list, by position, and what is asked of them.
use Rattle.std.specs.Prelude.{◌≡◌, ℕ, ◌<◌, ◌≤◌, List, length, get_or, Some, pos, ◌<ℤ◌}
use Rattle.htl_model.specs.Bits.{cell}
use Rattle.htl_walk.specs.{declared.job.Job.Job, Jobs.absent_job, Jobs.precedes}
use Rattle.htl_edf.specs.{declared.rounds.Tight.Tight, Tight.Jobs, Tight.tight, Tight.release_at, Tight.end_at, Windows.Windows, Edf.edf, Edf.left}

abbrev pub jobs_of : List Job → Jobs
jobs_of js = record {
  count = length js;
  release = λ q. (get_or js q absent_job).release;
  end = λ q. (get_or js q absent_job).end;
  worst = λ q. (get_or js q absent_job).worst;
  before = λ p q. precedes p (get_or js q absent_job);
}

-- the tightened windows of the jobs
abbrev pub tightened : List Job → Windows
tightened js = tight (jobs_of js)

-- the rows have for each position a bit for each position that waits for it
abbrev pub AreSuccessors : List Job → List ℕ → Type 0
AreSuccessors js rows = (p q : ℕ) → p < length js → q < length js → cell rows p q ≡ (jobs_of js).before p q

abbrev pub no_window : Tight
no_window = record { release = pos 0; end = pos 0 }

-- ts holds the windows over chains of at most k predecessors or successors
pub record HoldsAfter (js : List Job) (ts : List Tight) (k : ℕ) : Type 0 where
  pub releases : (q : ℕ) → q < length js → (get_or ts q no_window).release ≡ pos (release_at (jobs_of js) k q)
  pub ends : (q : ℕ) → q < length js → (get_or ts q no_window).end ≡ end_at (jobs_of js) k q

-- the windows of the first n positions are the same
abbrev pub AgreeBelow : ℕ → List Tight → List Tight → Type 0
AgreeBelow n ts us = (q : ℕ) → q < n → ((get_or ts q no_window).release ≡ (get_or us q no_window).release) × ((get_or ts q no_window).end ≡ (get_or us q no_window).end)

-- ts holds the tightened windows
pub record AreTightened (js : List Job) (ts : List Tight) : Type 0 where
  pub releases : (q : ℕ) → q < length js → (get_or ts q no_window).release ≡ pos ((tightened js).from q)
  pub ends : (q : ℕ) → q < length js → (get_or ts q no_window).end ≡ (tightened js).due q

-- the numbers are the ticks that the positions have left at t
pub record LeftAt (js : List Job) (ls : List ℕ) (t : ℕ) : Type 0 where
  pub lefts : (q : ℕ) → q < length js → get_or ls q 0 ≡ left (tightened js) t q

-- each tick from a to b that earliest deadline first gives to a position is before its tightened end
abbrev pub AreInTime : List Job → ℕ → ℕ → Type 0
AreInTime js a b = (x q : ℕ) → a ≤ x → x < b → edf (tightened js) x ≡ Some q → pos x <ℤ (tightened js).due q

-- no position is released after t and before h
pub record QuietFrom (js : List Job) (t h : ℕ) : Type 0 where
  pub quiet : (q : ℕ) → q < length js → t < release_at (jobs_of js) (length js) q → h ≤ release_at (jobs_of js) (length js) q
