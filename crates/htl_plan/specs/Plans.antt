-- The plan of a selection: the text of one frame in which all modules stay in their modes.
use Rattle.std.specs.Prelude.{ℕ, ◌+◌, Bool, true, false, cond, List, [], ◌∷◌, ◌++◌, length, Option, Some, None}
use Rattle.htl_model.specs.{Tables.Tables, Frames.hyper, Frames.frame_of, Frames.starts}
use Rattle.htl_walk.specs.{declared.schedule.Schedule.Schedule, NodeWalks.instrs_of, declared.job.Job.Job, declared.schedule.SInstr.SInstr, Feasible.lists_of, PathJobs.legs_of, Walk.Left, Walk.job_at, Walk.worst_cases}
use Rattle.std.specs.List.{flat_map}
use Rattle.htl_console.specs.Lines.{slice_line, done_line, plan_line}
use Rattle.htl_refine.specs.FrameRuns.{Frame, frame_jobs, frame_places, path_of, walk_of}

-- ---- the text

-- what stands at a position
abbrev pub inv_at : List Job → Option ℕ → ℕ
inv_at jobs (Some p) = (job_at jobs p).inv
inv_at jobs None = 0

abbrev pub slice_text : Tables → ℕ → Option (ℕ × ℕ) → List ℕ
slice_text t inv (Some s) = slice_line t s.0 s.1 inv
slice_text t inv None = []

abbrev pub done_text : Tables → ℕ → ℕ → Bool → List ℕ
done_text t inv at true = done_line t at inv
done_text t inv at false = []

-- the lines of an instruction that was left: its slice, and then whether it finished
abbrev pub left_text : Tables → List Job → Left → List ℕ
left_text t jobs l = slice_text t (inv_at jobs l.position) l.slice ++ done_text t (inv_at jobs l.position) l.at l.finished

abbrev pub walk_text : Tables → List Job → List Left → List ℕ
walk_text t jobs ls = flat_map (left_text t jobs) ls

-- how many positions finish
abbrev pub finishes : List Left → ℕ
finishes [] = 0
finishes (l ∷ ls) = cond l.finished 1 0 + finishes ls

-- the lines of these records, and the last line, of a frame that ends then
abbrev pub frame_text : Tables → ℕ → List Job → List Left → List ℕ
frame_text t end jobs ls = walk_text t jobs ls ++ plan_line end (finishes ls) (length ls)

-- the frame in which every module stays in its mode and every job takes its worst case, under the lists of its path's nodes
abbrev pub staying_frame : Tables → List (List SInstr) → List (Option ℕ) → Frame
staying_frame t lists modes =
    let always = λ (a : ℕ). modes in
    let jobs = frame_jobs t always in
    record {
      jobs = jobs;
      lengths = worst_cases jobs;
      lists = lists_of t lists (path_of t always);
      legs = legs_of (frame_of t) (frame_places t always) (starts t);
    }

-- one frame at a selection of running modes: what its lists leave, each with the work that those before it left; without modules
-- there is none
abbrev pub plan_text : Tables → List Schedule → List (Option ℕ) → List ℕ
plan_text t schedules modes = elim (hyper t) [
  | Some end ↦ let f = staying_frame t (instrs_of schedules) modes in frame_text t end f.jobs (walk_of f)
  | None ↦ plan_line 0 0 0
]

-- ---- the walk

-- the work of a job that takes its worst case
abbrev pub work_of : Job → ℕ
work_of j = cond j.present j.worst 0
