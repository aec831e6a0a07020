-- Lists that are accepted for all paths serve every frame of every run.
use Rattle.std.specs.Prelude.{ℕ, ◌*◌, ◌<◌, List, length}
use Rattle.htl_refine.specs.{Common.Event, Common.KeptApart, Common.frame_of, Common.AreInRange, Common.root_modules, Common.Tables, Common.SInstr, FrameRuns.Frame, FrameRuns.frame_at, Records.AreTookWithin, ServedJobs.AllServed}
use Rattle.htl_walk.specs.{Feasible.AreFeasible, Paths.AreInForm, Paths.AreChained, Paths.PathMeets}

-- the lists of a frame are in form, follow one another over its h ticks, and meet
pub record IsServing (f : Frame) (h : ℕ) : Type 0 where
  pub forms : AreInForm f.lists f.legs
  pub chain : AreChained 0 h (length f.jobs) f.legs
  pub meets : PathMeets f.jobs f.lengths f.lists f.legs

-- where every frame's lists meet, all jobs whose windows ended by `end` are served by then
abbrev pub FramesServe : Type 0
FramesServe = (frames : ℕ → Frame) (h end : ℕ) → ((k : ℕ) → IsServing (frames (k * h)) h) → AllServed frames h end

-- tables that keep the form rules, with lists that are accepted for all paths, and events within the worst cases
pub record IsFeasibleRun (t : Tables) (lists : List (List SInstr)) (es : List Event) : Type 0 where
  pub range : AreInRange t
  pub kept : KeptApart t 16
  pub within : AreTookWithin t es
  pub modules : 0 < length (root_modules t)
  pub ticks : 0 < frame_of t
  pub accepted : AreFeasible t lists

-- then every frame is served by its lists, whatever modes run and whatever the jobs take
abbrev pub FramesAreServed : Type 0
FramesAreServed = (t : Tables) (lists : List (List SInstr)) (es : List Event) (f : ℕ) → IsFeasibleRun t lists es → IsServing (frame_at t lists es f) (frame_of t)

-- so each job of a run is served, in its window
abbrev pub EveryJobInTime : Type 0
EveryJobInTime = (t : Tables) (lists : List (List SInstr)) (es : List Event) (end : ℕ) → IsFeasibleRun t lists es → AllServed (frame_at t lists es) (frame_of t) end
