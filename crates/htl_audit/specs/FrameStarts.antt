-- The jobs that an audit judges against are those of the frames of a run, start by start.
use Rattle.std.specs.Prelude.{◌≡◌, ◌<◌, ℕ, zero, suc, ◌+◌, ◌*◌, ◌%◌, ◌^◌, cond, List, length, get_or, slice_get, map, take, drop, Some}
use Rattle.htl_model.specs.{declared.event.Event.Event, Frames.frame_of, Frames.starts, Tables.Tables}
use Rattle.htl_walk.specs.{declared.job.Job.Job, declared.schedule.SInstr.SInstr, Walk.work}
use Rattle.htl_refine.specs.{FrameRuns.Frame, FrameRuns.frame_at, ListPlans.leg_at}
use Rattle.htl_audit.specs.Jobs.{BeginningJobs, all_rounds}

-- how many positions the lists before list j know
abbrev pub known_before : Frame → ℕ → ℕ
known_before p zero = 0
known_before p (suc j) = (leg_at p j).known

-- the part of a list by position that list j knows and those before it don't
abbrev pub part_of : {A : Type 0} → Frame → ℕ → List A → List A
part_of p j xs = drop (known_before p j) (take (leg_at p j).known xs)

-- a job of rounds that begin at offset a, as the frame has it behind n positions: the window is so much later, and its predecessors are n positions on
abbrev pub job_behind : ℕ → ℕ → Job → Job
job_behind a n j = cond j.present (record j { release = a + j.release; end = a + j.end; preds = j.preds * 2 ^ n }) j

-- what begins together is what begins at start j of the frame from f: at that instant, with these jobs, and each with as much work
pub record IsAtStart (p : Frame) (f j : ℕ) (r : BeginningJobs) : Type 0 where
  pub start : r.start ≡ f + (leg_at p j).from
  pub jobs : part_of p j p.jobs ≡ map (job_behind (leg_at p j).from (known_before p j)) r.jobs
  pub lengths : part_of p j (work p.jobs p.lengths) ≡ work r.jobs r.lengths

-- it is so for each that begins before `now`, and each start of a frame before `now` is among them; they are in their order, each once
pub record AreAtStarts (t : Tables) (lists : List (List SInstr)) (es : List Event) (now : ℕ) (rs : List BeginningJobs) : Type 0 where
  pub each : (i : ℕ) (r : BeginningJobs) → slice_get rs i ≡ Some r → (f j : ℕ) × (f % frame_of t ≡ 0) × (j < length (starts t)) × IsAtStart (frame_at t lists es f) f j r
  pub all : (f j : ℕ) → f % frame_of t ≡ 0 → j < length (starts t) → f + get_or (starts t) j 0 < now → (i : ℕ) × (r : BeginningJobs) × (slice_get rs i ≡ Some r) × IsAtStart (frame_at t lists es f) f j r
  pub order : (i k : ℕ) (r s : BeginningJobs) → i < k → slice_get rs i ≡ Some r → slice_get rs k ≡ Some s → r.start < s.start

-- the frames are those whose lists leave the run's records
abbrev pub AuditedJobsAreTheFrames : Type 0
AuditedJobsAreTheFrames = (t : Tables) (lists : List (List SInstr)) (es : List Event) (now : ℕ) → 0 < frame_of t → AreAtStarts t lists es now (all_rounds t es now)
