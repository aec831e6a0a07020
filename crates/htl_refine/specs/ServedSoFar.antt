-- The records of a frame serve the jobs that it has so far.
use Rattle.std.specs.Prelude.{◌≡◌, ℕ, suc, ◌+◌, ◌-◌, ◌≤◌, ◌<◌, true, false, List, length, slice_get, take, Some}
use Rattle.htl_walk.specs.{declared.job.Job.Job, Walk.Left, Walk.job_at, Walk.finish, Walk.slices, Walk.IsMet}
use Rattle.htl_refine.specs.{FrameRuns.Frame, FrameRuns.walk_of, ListPlans.leg_at, ListPlans.list_plan, RecordCounts.Rises, RecordCounts.done_by, ServedFrames.IsServing}

-- the records of the frame from `frame`, by the jobs whose rounds have begun by n
pub record IsServedSoFar (jobs : List Job) (ls : List Left) (frame n : ℕ) : Type 0 where
  pub rises : Rises 0 ls
  pub meets : (p : ℕ) (j : Job) → slice_get jobs p ≡ Some j → j.present ≡ true → IsMet jobs ls p j
  -- who finishes was released before, and began before
  pub late : (p f : ℕ) → p < length jobs → finish ls p ≡ Some f → ((job_at jobs p).release < f) × ((z : ℕ × ℕ) × (slice_get (slices ls p) 0 ≡ Some z) × (z.0 < f))
  -- it finishes once
  pub open_yet : (k p : ℕ) (l : Left) → slice_get ls k ≡ Some l → l.position ≡ Some p → l.finished ≡ true → p < length jobs → (done_by ls k p ≡ false) × ((job_at jobs p).present ≡ true)
  -- who finishes by the next instant has begun
  pub known : (k p : ℕ) (l : Left) → slice_get ls k ≡ Some l → l.position ≡ Some p → l.finished ≡ true → frame + l.at ≤ suc n → p < length jobs

-- the first m positions are those of the lists that have begun by an offset
abbrev pub KnowsBegun : Frame → ℕ → ℕ → Type 0
KnowsBegun f m d = (i : ℕ) → i < length f.legs → (leg_at f i).from ≤ d → (leg_at f i).known ≤ m

-- then the records of the frame serve their jobs
abbrev pub FrontServed : Type 0
FrontServed = (f : Frame) (h frame n m : ℕ) → frame ≤ n → IsServing f h → m ≤ length f.jobs → KnowsBegun f m (n - frame) → IsServedSoFar (take m f.jobs) (walk_of f) frame n

-- so they do for the list that runs
abbrev pub ListServed : Type 0
ListServed =
    (f : Frame) (h frame n j : ℕ) → frame ≤ n → IsServing f h → (leg_at f j).known ≤ length f.jobs → KnowsBegun f (leg_at f j).known (n - frame)
    → IsServedSoFar (list_plan f j).jobs (walk_of f) frame n
