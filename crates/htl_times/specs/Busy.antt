-- How long the processor is busy in a frame.
use Rattle.std.specs.Prelude.{◌≡◌, ℕ, ◌≤◌, ◌<◌, sum, Option, Some, None}
use Rattle.htl_model.specs.{Frames.paths, Tables.Tables}
use Rattle.htl_walk.specs.{PathJobs.path_jobs, Walk.worst_cases}
use Rattle.htl_times.specs.declared.greatest.Greatest.{Greatest}

-- the sum of the worst cases of a path's jobs, in ticks; the path's utilisation is this over the frame's length
abbrev pub busy : Tables → ℕ → ℕ
busy t path = sum (worst_cases (path_jobs t path))

-- the busiest path: the first of the greatest sum
pub record IsBusiest (t : Tables) (b : Greatest) : Type 0 where
  pub within : b.path < paths t
  pub sum : b.ticks ≡ busy t b.path
  pub most : (path : ℕ) → path < paths t → busy t path ≤ b.ticks
  pub first : (path : ℕ) → path < b.path → busy t path < b.ticks

-- what is told of it: nothing where there is no path
abbrev pub IsBusiestOf : Tables → Option Greatest → Type 0
IsBusiestOf t None = paths t ≡ 0
IsBusiestOf t (Some b) = IsBusiest t b
