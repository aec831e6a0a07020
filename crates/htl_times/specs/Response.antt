-- Response times: when the jobs of a path finish in its worst-case walk, by its own lists.
use Rattle.std.specs.Prelude.{◌≡◌, ℕ, ◌+◌, ◌≤◌, ◌<◌, List, slice_get, Option, Some, None}
use Rattle.htl_model.specs.{Frames.paths, Frames.path_places, Tables.Tables}
use Rattle.htl_walk.specs.{Feasible.lists_of, PathJobs.path_jobs, PathJobs.legs, Paths.walk_path, Paths.end_to_end, Walk.Left, Walk.worst_cases, Walk.finish, declared.schedule.SInstr.SInstr}
use Rattle.htl_refine.specs.FramePlaces.{place}
use Rattle.htl_times.specs.declared.greatest.Greatest.{Greatest}

-- the records of the worst-case walk of a path
abbrev pub worst_walk : Tables → List (List SInstr) → ℕ → List Left
worst_walk t lists path = end_to_end (walk_path (path_jobs t path) (worst_cases (path_jobs t path)) (lists_of t lists path) (legs t path))

-- when a position finishes there, in ticks from the frame's start
abbrev pub worst_finish : Tables → List (List SInstr) → ℕ → ℕ → Option ℕ
worst_finish t lists path p = finish (worst_walk t lists path) p

-- in the worst-case walk of a path a job of root invocation i finishes so many ticks after its round begins
pub record FinishesAfter (t : Tables) (lists : List (List SInstr)) (i path ticks : ℕ) : Type 0 where
  pub position : ℕ
  pub at : ℕ
  pub placed : slice_get (path_places t path) position ≡ Some (place i at)
  pub finishes : worst_finish t lists path position ≡ Some (at + ticks)

-- the latest finish over all paths of a frame, with the first path on which it happens
pub record IsLatest (t : Tables) (lists : List (List SInstr)) (i : ℕ) (l : Greatest) : Type 0 where
  pub within : l.path < paths t
  pub reached : FinishesAfter t lists i l.path l.ticks
  pub latest : (path ticks : ℕ) → path < paths t → FinishesAfter t lists i path ticks → ticks ≤ l.ticks
  pub first : (path ticks : ℕ) → path < l.path → FinishesAfter t lists i path ticks → ticks < l.ticks

-- what is told of an invocation: nothing where no path has a job of it that finishes
abbrev pub IsLatestOf : Tables → List (List SInstr) → ℕ → Option Greatest → Type 0
IsLatestOf t lists i None = (path ticks : ℕ) → path < paths t → FinishesAfter t lists i path ticks → ⊥
IsLatestOf t lists i (Some l) = IsLatest t lists i l
