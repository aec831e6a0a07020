-- The S machine where the next list of a frame begins.
use Rattle.std.specs.Prelude.{ℕ, suc, ◌+◌, ◌-◌, List, [], length, take, drop, get_or}
use Rattle.htl_runs.specs.{Common.Job, Common.HaveLengths, Common.AreWithinWorst, Common.CanBegin, Common.Round, Common.added, Common.leg_at, Common.list_plan, records.SMachineStands.SMachineAt}
use Rattle.htl_refine.specs.{FrameRuns.Frame, ListLaws.IsFollowed}

-- the positions that are new in list j + 1, and how long they take
abbrev pub more_jobs : Frame → ℕ → List Job
more_jobs f j = drop (leg_at f j).known (take (leg_at f (suc j)).known f.jobs)

abbrev pub more_lengths : Frame → ℕ → List ℕ
more_lengths f j = drop (leg_at f j).known (take (leg_at f (suc j)).known f.lengths)

-- where all of a list is left, and all releases before the next list are told, these may begin, and with them the S machine stands at the
-- beginning of the next list
abbrev pub SMachinesGoOn : Type 0
SMachinesGoOn =
    (f : Frame) (j s : ℕ) (r : Round) → IsFollowed f j → HaveLengths f.jobs f.lengths → AreWithinWorst f.jobs f.lengths
    → (let at = s + (leg_at f (suc j)).from in
    SMachineAt (list_plan f j) s (length (get_or f.lists j [])) (leg_at f (suc j)).from r
    → CanBegin r (at - r.start) (more_jobs f j) (more_lengths f j) × SMachineAt (list_plan f (suc j)) s 0 (leg_at f (suc j)).from (added r at (more_jobs f j) (more_lengths f j)))
