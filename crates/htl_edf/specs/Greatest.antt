-- How far the worst case of a task can be raised.
use Rattle.std.specs.Prelude.{◌≡◌, ℕ, zero, suc, ◌<◌, ◌≤◌, List, [], ◌∷◌}
use Rattle.htl_model.specs.{declared.parts.Task.Task, Tables.Tables, Tables.task_worst, declared.frame.Frame.Frame, Frames.paths, Frames.frame_limit, FrameTables.IsFrame}
use Rattle.htl_walk.specs.PathJobs.{path_jobs}
use Rattle.htl_edf.specs.{Windows.NoOverload, Lists.tightened, NodePlans.AreReady}

-- the tasks with worst case w at place k
abbrev pub worst_in : ℕ → ℕ → List Task → List Task
worst_in w k [] = []
worst_in w zero (x ∷ xs) = record x { worst = w } ∷ xs
worst_in w (suc k) (x ∷ xs) = x ∷ worst_in w k xs

-- the tables with worst case w for this task
abbrev pub with_worst : Tables → ℕ → ℕ → Tables
with_worst t task w = record t { tasks = worst_in w task t.tasks }

-- no path is overloaded with worst case w for this task
abbrev pub Fits : Tables → ℕ → ℕ → Type 0
Fits t task w = (path : ℕ) → path < paths (with_worst t task w) → NoOverload (tightened (path_jobs (with_worst t task w) path))

-- g is the greatest worst case up to the limit for which no path is overloaded
pub record IsGreatest (t : Tables) (task limit g : ℕ) : Type 0 where
  pub within : g ≤ limit
  pub fits : Fits t task g
  pub last : (w : ℕ) → w ≤ limit → Fits t task w → w ≤ g

-- with fewer ticks for the task no path is overloaded either
abbrev pub FewerFit : Type 0
FewerFit = (t : Tables) (task w v : ℕ) → w ≤ v → Fits t task v → Fits t task w

-- so the greatest is known by one more
abbrev pub GreatestByOneMore : Type 0
GreatestByOneMore = (t : Tables) (task limit g : ℕ) → g ≤ limit → Fits t task g → (g < limit → Fits t task (suc g) → ⊥) → IsGreatest t task limit g

abbrev pub OneGreatest : Type 0
OneGreatest = (t : Tables) (task limit g h : ℕ) → IsGreatest t task limit g → IsGreatest t task limit h → g ≡ h

-- tables whose paths the scheduler takes are such with any worst case from 1 to a million
abbrev pub ReadyWithWorst : Type 0
ReadyWithWorst = (t : Tables) (task w : ℕ) → 1 ≤ w → w ≤ 1000000 → AreReady t → AreReady (with_worst t task w)

-- the task's own worst case gives the tables themselves
abbrev pub OwnWorst : Type 0
OwnWorst = (t : Tables) (task : ℕ) → with_worst t task (task_worst t task) ≡ t

-- no worst case reaches the limits of frames, and the frame is the same
abbrev pub LimitsWithWorst : Type 0
LimitsWithWorst = (t : Tables) (task w : ℕ) → frame_limit (with_worst t task w) ≡ frame_limit t

abbrev pub FrameWithWorst : Type 0
FrameWithWorst = (t : Tables) (f : Frame) (task w : ℕ) → IsFrame t f → IsFrame (with_worst t task w) f
