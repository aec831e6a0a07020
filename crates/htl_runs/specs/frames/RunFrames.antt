-- A run, frame by frame.
use Rattle.std.specs.Prelude.{ℕ, suc, ◌*◌, ◌<◌, List, take}
use Rattle.htl_runs.specs.{Common.Event, Common.KeptApart, Common.frame_of, Common.AreInRange, Common.Tables, Common.SInstr, Common.Content, frames.FramePlaces.frame_start, frames.FramePlaces.begun_by}
use Rattle.htl_refine.specs.{FrameRuns.frame_modes, FrameRuns.frame_jobs, FrameRuns.frame_at, FrameRuns.walk_of, ServedFrames.IsServing, ServedFrames.IsFeasibleRun}
use Rattle.htl_runs.specs.frames.FrameSteps.{Now, present_finished, finished_at, AreFrames, next_by_frames}
use Rattle.htl_runs.specs.values.Values.{ValuesFollow, HasPlaces, Ready}

-- the frame at an instant: the jobs whose rounds have begun, and the records of its lists
abbrev pub now_of : Tables → List (List SInstr) → List Event → ℕ → Now
now_of t lists es n =
    let f = frame_start t n in
    record { frame = f; jobs = take (begun_by t es f n) (frame_jobs t (frame_modes t es f)); walk = walk_of (frame_at t lists es f) }

-- where the lists serve each frame, at each instant a run's jobs are those so far, the records serve them, and they go on from instant to instant
abbrev pub RunFrames : Type 0
RunFrames =
    (t : Tables) (lists : List (List SInstr)) (es : List Event) → AreInRange t → KeptApart t 16 → 0 < frame_of t → ((k : ℕ) → IsServing (frame_at t lists es (frame_of t * k)) (frame_of t))
    → AreFrames t es (now_of t lists es)

-- so where the lists are feasible for every path, whatever the modes, and whatever the jobs take
abbrev pub FeasibleRuns : Type 0
FeasibleRuns = (t : Tables) (lists : List (List SInstr)) (es : List Event) → IsFeasibleRun t lists es → AreFrames t es (now_of t lists es)

-- each instant makes of a world that follows the values before it one that follows those before the next
abbrev pub ValuesGoOn : Type 0
ValuesGoOn =
    (t : Tables) (lists : List (List SInstr)) (es : List Event) → IsFeasibleRun t lists es → (n : ℕ) (w : Content) → let now = now_of t lists es in ValuesFollow t es n (present_finished now n) w → HasPlaces t w
    → ValuesFollow t es (suc n) (present_finished now (suc n)) (next_by_frames t es now n w) × HasPlaces t (next_by_frames t es now n w)

-- once the records of an instant are done, what is due is finished, and what is finished has read all
abbrev pub RunReady : Type 0
RunReady = (t : Tables) (lists : List (List SInstr)) (es : List Event) → IsFeasibleRun t lists es → (n : ℕ) → Ready t es (suc n) (finished_at (now_of t lists es) (suc n))
