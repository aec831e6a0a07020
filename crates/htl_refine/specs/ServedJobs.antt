-- What the records of a frame show: each job done once, in its window, in slices that are its own.
use Rattle.std.specs.Prelude.{◌≡◌, ℕ, suc, ◌+◌, ◌-◌, ◌*◌, ◌≤◌, ◌<◌, true, List, [], ◌∷◌, slice_get, get_or, Some}
use Rattle.htl_walk.specs.{declared.job.Job.Job, Jobs.precedes, Walk.Left, Walk.job_at, Walk.slices, Walk.AllWithin, Walk.DoneBy}
use Rattle.htl_refine.specs.{FrameRuns.Frame, FrameRuns.walk_of, RecordCounts.count_left_before}

-- the ticks of slices
abbrev pub spent : List (ℕ × ℕ) → ℕ
spent [] = 0
spent (s ∷ ss) = (s.1 - s.0) + spent ss

-- record k says that the job at position p is done
abbrev pub Finishes : List Left → ℕ → ℕ → ℕ → Type 0
Finishes ls p k f = (l : Left) × (slice_get ls k ≡ Some l) × (l.position ≡ Some p) × (l.finished ≡ true) × (l.at ≡ f)

-- the job j at position p is served by these records: in one of them it is done, within its window; its slices lie in the window,
-- have as many ticks as it takes, and begin after its predecessors are done
pub record IsServed (jobs : List Job) (lengths : List ℕ) (ls : List Left) (p : ℕ) (j : Job) : Type 0 where
  pub finish_at : ℕ
  pub record_at : ℕ
  pub done : Finishes ls p record_at finish_at
  pub once : (k f : ℕ) → Finishes ls p k f → k ≡ record_at
  pub in_time : finish_at ≤ j.end
  pub within : AllWithin j.release j.end (slices ls p)
  pub whole : spent (slices ls p) ≡ get_or lengths p 0
  pub after : (q : ℕ) (s : ℕ × ℕ) → precedes q j ≡ true → (job_at jobs q).present ≡ true → slice_get (slices ls p) 0 ≡ Some s → DoneBy ls q s.0

-- slices of different records don't overlap
abbrev pub SlicesAreApart : List Left → Type 0
SlicesAreApart ls = (k m : ℕ) (a b : Left) (s u : ℕ × ℕ) → k < m → slice_get ls k ≡ Some a → slice_get ls m ≡ Some b → a.slice ≡ Some s → b.slice ≡ Some u → s.1 ≤ u.0

-- the records serve the jobs
pub record Serves (jobs : List Job) (lengths : List ℕ) (ls : List Left) : Type 0 where
  pub each : (p : ℕ) (j : Job) → slice_get jobs p ≡ Some j → j.present ≡ true → IsServed jobs lengths ls p j
  pub apart : SlicesAreApart ls

-- a job of the frame from s whose window ended by `end`: it is served, and the record that says so is one of those up to then
pub record IsShown (f : Frame) (s end q : ℕ) (j : Job) : Type 0 where
  pub served : IsServed f.jobs f.lengths (walk_of f) q j
  pub told : served.record_at < count_left_before (suc end - s) (walk_of f)

-- each job of each frame whose window ended by `end` is served by then, in slices that are its own; frames don't overlap
pub record AllServed (frames : ℕ → Frame) (h end : ℕ) : Type 0 where
  pub jobs : (k q : ℕ) (j : Job) → let s = k * h in slice_get (frames s).jobs q ≡ Some j → j.present ≡ true → s + j.end ≤ end → IsShown (frames s) s end q j
  pub apart : (k : ℕ) → SlicesAreApart (walk_of (frames (k * h)))
  -- nothing of a frame is left after its end
  pub inside : (k i : ℕ) (l : Left) → slice_get (walk_of (frames (k * h))) i ≡ Some l → l.at ≤ h
