-- The laws of the lists of a frame.
use Rattle.std.specs.Prelude.{◌≡◌, ℕ, suc, ◌+◌, ◌≤◌, ◌<◌, true, List, [], length, take, get_or, slice_get, Some}
use Rattle.htl_refine.specs.{Common.Event, Common.starts, Common.Tables, Common.Job, Common.SInstr, Common.AreInForm, Common.AreChained, Common.HaveLengths, FrameRuns.Frame, FrameRuns.frame_at, FrameRuns.walks_of, FrameRuns.walk_of}
use Rattle.htl_walk.specs.{Laws.AgreeBefore, Walk.last_point, Walk.work, Walk.earlier}
use Rattle.htl_refine.specs.{ListPlans.leg_at, ListPlans.list_plan, ListPlans.list_walk, ListPlans.records_before, RecordCounts.count_left_before, RecordCounts.done_by, ServedFrames.IsServing, ServedFrames.IsFeasibleRun}

-- the walk of a list over the positions so far is what the walk of the frame tells of it
abbrev pub ListWalks : Type 0
ListWalks = (f : Frame) (j : ℕ) → AreInForm f.lists f.legs → j < length f.legs → slice_get (walks_of f) j ≡ Some (list_walk (list_plan f j))

-- the records before an offset at which list j runs are those of the lists before it and those of its own
abbrev pub CountSplit : Type 0
CountSplit =
    (f : Frame) (h j e : ℕ) → IsServing f h → j < length f.legs → (leg_at f j).from < e → e ≤ (leg_at f j).to
    → count_left_before e (walk_of f) ≡ records_before f j + count_left_before e (list_walk (list_plan f j))

-- and whoever is done by the records up to an offset is done by those: where the next list begins there, its records at once finish nothing
abbrev pub DoneSplit : Type 0
DoneSplit =
    (f : Frame) (h j d p : ℕ) → IsServing f h → j < length f.legs → (leg_at f j).from ≤ d → d ≤ (leg_at f j).to
    → done_by (walk_of f) (count_left_before (suc d) (walk_of f)) p ≡ done_by (walk_of f) (records_before f j + count_left_before (suc d) (list_walk (list_plan f j))) p

-- where a job has no work left after k instructions of list j, a record of the frame so far finished it
abbrev pub WorkDone : Type 0
WorkDone =
    (f : Frame) (h j k p : ℕ) → IsServing f h → j < length f.legs → p < (leg_at f j).known → k ≤ length (get_or f.lists j []) → 0 < get_or (work f.jobs f.lengths) p 0
    → get_or (last_point (list_plan f j).jobs (take k (list_plan f j).schedule) (list_plan f j).first).left p 0 ≡ 0 → done_by (walk_of f) (records_before f j + k) p ≡ true

-- list j + 1 comes after list j: it isn't empty, knows what list j knows, and no further position is released before it
pub record IsFollowed (f : Frame) (j : ℕ) : Type 0 where
  pub forms : AreInForm f.lists f.legs
  pub there : suc j < length f.legs
  pub some : 0 < length (get_or f.lists (suc j) [])
  pub before : (i : ℕ) → i < j → (leg_at f i).known ≤ (leg_at f j).known
  pub more : (leg_at f j).known ≤ (leg_at f (suc j)).known
  pub within : (leg_at f (suc j)).known ≤ length f.jobs
  pub lengths : length f.lengths ≡ length f.jobs
  pub later : (p : ℕ) (k : Job) → (leg_at f j).known ≤ p → slice_get f.jobs p ≡ Some k → k.present ≡ true → (leg_at f (suc j)).from ≤ k.release

-- so do the lists of each frame of a run
abbrev pub ListsFollow : Type 0
ListsFollow = (t : Tables) (lists : List (List SInstr)) (es : List Event) (f j : ℕ) → IsFeasibleRun t lists es → suc j < length (starts t) → IsFollowed (frame_at t lists es f) j

-- other lengths of jobs that are released at t or later change nothing that is left before t of a list that began before it
abbrev pub LengthsLater : Type 0
LengthsLater =
    (f : Frame) (ms : List ℕ) (h t j : ℕ) → AreInForm f.lists f.legs → AreChained 0 h (length f.jobs) f.legs → j < length f.legs → (leg_at f j).from < t
    → HaveLengths f.jobs f.lengths → HaveLengths f.jobs ms → AgreeBefore t f.jobs f.lengths ms
    → earlier t (list_walk (list_plan f j)) ≡ earlier t (list_walk (list_plan (record f { lengths = ms }) j))
