-- From instant to instant: the frame that runs, the jobs that are finished, and what its records do.
use Rattle.std.specs.Prelude.{◌≡◌, ℕ, zero, suc, ◌-◌, ◌≤◌, ◌⊎◌, Bool, false, List, slice_get, Some}
use Rattle.htl_runs.specs.Common.{Event, Tables, AreInRange, KeptApart, sense, state, before, Job, Left, Content, count_left_before, done_by}
use Rattle.htl_refine.specs.ServedSoFar.{IsServedSoFar}
use Rattle.htl_runs.specs.{frames.JobsSoFar.AreJobsSoFar, values.FinishedJobs.run_records, frames.LastPositions.finished_in, values.Values.AreCarried, values.InstantEffects.world_after}

-- the frame at an instant: when it began, the jobs that it has so far, and its records
pub record Now : Type 0 where
  pub frame : ℕ
  pub jobs : List Job
  pub walk : List Left

-- the jobs of the present rounds that are finished before an instant, and once its records are done
abbrev pub present_finished : (ℕ → Now) → ℕ → ℕ → Bool
present_finished now zero i = false
present_finished now (suc n) i = let f = now n in finished_in f.jobs (done_by f.walk (count_left_before (suc n - f.frame) f.walk)) i

abbrev pub finished_at : (ℕ → Now) → ℕ → ℕ → Bool
finished_at now zero i = false
finished_at now (suc n) i = let f = now n in finished_in f.jobs (done_by f.walk (count_left_before (suc (suc n) - f.frame) f.walk)) i

-- at each instant the jobs are those so far, and the records serve them; a frame goes on with further jobs, or the next begins
pub record AreFrames (t : Tables) (es : List Event) (now : ℕ → Now) : Type 0 where
  pub past : (n : ℕ) → (now n).frame ≤ n
  pub jobs_so_far : (n : ℕ) → AreJobsSoFar t (state t es n).stays (now n).frame n (now n).jobs
  pub runs : (n : ℕ) → IsServedSoFar (now n).jobs (now n).walk (now n).frame n
  pub on : (n : ℕ) → ((now (suc n)).frame ≡ suc n)
      ⊎ (((now (suc n)).frame ≡ (now n).frame) × ((now (suc n)).walk ≡ (now n).walk) × ((p : ℕ) (j : Job) → slice_get (now n).jobs p ≡ Some j → slice_get (now (suc n)).jobs p ≡ Some j))

-- the records at an instant of the frame that ran before it
abbrev pub frame_records : Tables → (ℕ → Now) → ℕ → Content → Content
frame_records t now zero w = w
frame_records t now (suc n) w =
    let f = now n in
    let a = count_left_before (suc n - f.frame) f.walk in
    run_records t f.jobs f.walk (count_left_before (suc (suc n) - f.frame) f.walk - a) a w

-- a whole instant: those records, the writes, the sensors, the reads
abbrev pub next_by_frames : Tables → List Event → (ℕ → Now) → ℕ → Content → Content
next_by_frames t es now n w = world_after t (sense t es) n (before t es n).stays (state t es n).stays (frame_records t now n w)

-- what is finished after an instant's records is finished before the next, of the rounds that go on; of those that begin nothing is
abbrev pub FinishedCarried : Type 0
FinishedCarried = (t : Tables) (es : List Event) (now : ℕ → Now) → AreInRange t → KeptApart t 12 → AreFrames t es now → (n : ℕ) → AreCarried t es n (finished_at now n) (present_finished now (suc n))
