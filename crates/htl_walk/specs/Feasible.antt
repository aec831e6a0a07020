-- Lists by nodes, and what they are accepted for.
use Rattle.std.specs.Prelude.{ℕ, ◌<◌, List, [], length, get_or}
use Rattle.htl_model.specs.{Tables.Tables, Lists.list_to, Frames.starts, Frames.paths, Frames.node}
use Rattle.htl_walk.specs.{declared.schedule.SInstr.SInstr, Paths.IsPathAccepted, PathJobs.path_jobs, PathJobs.legs}

-- the lists of the nodes of a path
abbrev pub lists_of : Tables → List (List SInstr) → ℕ → List (List SInstr)
lists_of t lists path = list_to (λ j. get_or lists (node t path j) []) (length (starts t))

-- every path accepts the lists of its nodes
abbrev pub AreFeasible : Tables → List (List SInstr) → Type 0
AreFeasible t lists = (path : ℕ) → path < paths t → IsPathAccepted (path_jobs t path) (legs t path) (lists_of t lists path)
