-- What the code notes on its way: finishes in a walk, and the greatest of those that were seen.
use Rattle.std.specs.Prelude.{◌≡◌, ℕ, ◌+◌, ◌≤◌, ◌<◌, ◌⊎◌, cond, ◌&&◌, ltb, List, drop, length, set, get_or, Option, Some, None}
use Rattle.htl_model.specs.{First.or_else, Frames.starts, Lists.list_to, Tables.Tables, declared.frame.Place.Place}
use Rattle.htl_walk.specs.{Walk.Point, Walk.Left, Walk.is_position, Walk.walk_from, Walk.last_point, Walk.finish, Walk.left_by, NodeWalks.list_at, NodeWalks.reached, PathJobs.path_jobs, Paths.list_point, Paths.end_to_end}
use Rattle.htl_walk.specs.{declared.job.Job.Job, declared.schedule.SInstr.SInstr}
use Rattle.htl_times.specs.{declared.greatest.Greatest.Greatest, Busy.busy, Response.FinishesAfter, Response.worst_finish}

-- ---- a walk

-- what one record says of the finish of position p
abbrev pub told : Left → ℕ → Option ℕ
told l p = cond (is_position l.position p && l.finished) (Some l.at) None

-- the finishes after an instruction between these points: a finish that is noted stays
abbrev pub AreNoted : List Job → SInstr → Point → Point → List (Option ℕ) → List (Option ℕ) → Type 0
AreNoted jobs i x y old new = (p : ℕ) → p < length old → get_or new p None ≡ or_else (get_or old p None) (told (left_by jobs i x y) p)

-- before instruction k: what is noted, with what the rest of the walk tells, is what the whole walk from x tells
pub record IsHalfway (jobs : List Job) (is : List SInstr) (k : ℕ) (x y : Point) (old new : List (Option ℕ)) : Type 0 where
  pub same : length new ≡ length old
  pub point : last_point jobs (drop k is) y ≡ last_point jobs is x
  pub noted : (p : ℕ) → p < length old → or_else (get_or new p None) (finish (walk_from jobs (drop k is) y) p) ≡ or_else (get_or old p None) (finish (walk_from jobs is x) p)

-- the finishes after a list that begins at x
abbrev pub AreFinishes : List Job → List SInstr → Point → List (Option ℕ) → List (Option ℕ) → Type 0
AreFinishes jobs is x old new = (p : ℕ) → p < length old → get_or new p None ≡ or_else (get_or old p None) (finish (walk_from jobs is x) p)

-- ---- the greatest of those that were seen

-- the greater one; of two alike the one that was seen first
abbrev pub greater_of : Option Greatest → ℕ → ℕ → Option Greatest
greater_of None ticks path = Some (record { ticks = ticks; path = path })
greater_of (Some l) ticks path = cond (ltb l.ticks ticks) (Some (record { ticks = ticks; path = path })) (Some l)

-- the greatest of what was seen, by path and ticks
abbrev pub IsBest : (ℕ → ℕ → Type 0) → Option Greatest → Type 0
IsBest Seen None = (path ticks : ℕ) → Seen path ticks → ⊥
IsBest Seen (Some l) = Seen l.path l.ticks × ((path ticks : ℕ) → Seen path ticks → ticks ≤ l.ticks) × ((path ticks : ℕ) → Seen path ticks → path < l.path → ticks < l.ticks)

-- seen on the paths below n
abbrev pub SeenBefore : Tables → List (List SInstr) → ℕ → ℕ → ℕ → ℕ → Type 0
SeenBefore t lists n i path ticks = (path < n) × FinishesAfter t lists i path ticks

-- seen on the paths below n, and on path n at the positions below p
abbrev pub SeenTo : Tables → List (List SInstr) → ℕ → ℕ → ℕ → ℕ → ℕ → Type 0
SeenTo t lists n p i path ticks = SeenBefore t lists n i path ticks ⊎ ((path ≡ n) × (f : FinishesAfter t lists i n ticks) × (f.position < p))

abbrev pub AreBestTo : Tables → List (List SInstr) → ℕ → ℕ → List (Option Greatest) → Type 0
AreBestTo t lists n p rows = (i : ℕ) → i < length rows → IsBest (SeenTo t lists n p i) (get_or rows i None)

abbrev pub AreBestBefore : Tables → List (List SInstr) → ℕ → List (Option Greatest) → Type 0
AreBestBefore t lists n rows = (i : ℕ) → i < length rows → IsBest (SeenBefore t lists n i) (get_or rows i None)

-- how long the paths below n are busy
abbrev pub BusyBefore : Tables → ℕ → ℕ → ℕ → Type 0
BusyBefore t n path ticks = (path < n) × (ticks ≡ busy t path)

-- ---- the lists of a path

-- the records of list j in the worst-case walk of a path
abbrev pub list_walk : Tables → List (List SInstr) → ℕ → ℕ → List Left
list_walk t lists path j = walk_from (path_jobs t path) (list_at t lists path j) (list_point (get_or (starts t) j 0) (reached t lists path j))

-- the finishes after the first n lists
abbrev pub AreFinishesTo : Tables → List (List SInstr) → ℕ → ℕ → List (Option ℕ) → Type 0
AreFinishesTo t lists path n finishes = (p : ℕ) → p < length finishes → get_or finishes p None ≡ finish (end_to_end (list_to (list_walk t lists path) n)) p

-- the finishes of a path
abbrev pub AreWorstFinishes : Tables → List (List SInstr) → ℕ → List (Option ℕ) → Type 0
AreWorstFinishes t lists path finishes = (p : ℕ) → p < length finishes → get_or finishes p None ≡ worst_finish t lists path p

-- the work that a job asks for at its worst case
abbrev pub work_of : Job → ℕ
work_of j = cond j.present j.worst 0

-- nothing is noted
abbrev pub AreEmpty : {A : Type 0} → List (Option A) → Type 0
AreEmpty xs = (k : ℕ) → k < length xs → get_or xs k None ≡ None

-- ---- what a position tells

-- a job of invocation i stands at x and finishes so many ticks after its round begins
abbrev pub Tells : Place → Option ℕ → ℕ → ℕ → Type 0
Tells x finish i ticks = (x.inv ≡ Some i) × (finish ≡ Some (x.at + ticks))

abbrev pub IsToldBy : Place → Option ℕ → Option (ℕ × ℕ) → Type 0
IsToldBy x finish None = (i ticks : ℕ) → Tells x finish i ticks → ⊥
IsToldBy x finish (Some r) = Tells x finish r.0 r.1

-- the rows after it
abbrev pub rows_after : List (Option Greatest) → ℕ → Option (ℕ × ℕ) → List (Option Greatest)
rows_after rows path None = rows
rows_after rows path (Some r) = set rows r.0 (greater_of (get_or rows r.0 None) r.1 path)
