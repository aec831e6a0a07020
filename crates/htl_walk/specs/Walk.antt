-- What a processor does with a list of instructions in one round.
use Rattle.std.specs.Prelude.{◌≡◌, ℕ, zero, suc, ◌+◌, ◌-◌, ◌≤◌, ◌<◌, min, max, Bool, true, false, cond, ◌&&◌, eqb, ltb, List, [], ◌∷◌, length, get_or, slice_get, set, take, map, Option, Some, None}
use Rattle.htl_walk.specs.{declared.job.Job.Job, declared.schedule.SInstr.SInstr, declared.schedule.SInstr.TheVariants.Dispatch, declared.schedule.SInstr.TheVariants.Idle, declared.schedule.SInstr.TheVariants.End}
use Rattle.htl_walk.specs.Jobs.{precedes, absent_job}

-- the time, and the work left at each position
pub record Point : Type 0 where
  pub time : ℕ
  pub left : List ℕ

-- an instruction that was left at `at`
pub record Left : Type 0 where
  pub at : ℕ
  pub position : Option ℕ
  pub slice : Option (ℕ × ℕ)
  pub finished : Bool

abbrev pub job_at : List Job → ℕ → Job
job_at jobs p = elim (slice_get jobs p) [ Some j ↦ j | None ↦ absent_job ]

-- when a dispatch begins to run: at the release, and at `until` at the latest
abbrev pub dispatch_begins : ℕ → ℕ → ℕ → ℕ
dispatch_begins time release until = max time (min release until)

-- the time after a dispatch, by the time before it, the work left, the release and `until`; at once where no work is left
abbrev pub time_after : ℕ → ℕ → ℕ → ℕ → ℕ
time_after now zero release until = now
time_after now (suc w) release until = dispatch_begins now release until + min (suc w) (until - dispatch_begins now release until)

-- the work left after it
abbrev pub work_after : ℕ → ℕ → ℕ → ℕ → ℕ
work_after now w release until = w - (until - dispatch_begins now release until)

-- the point after a dispatch
abbrev pub dispatched : List Job → ℕ → ℕ → Point → Point
dispatched jobs p until x =
    let w = get_or x.left p 0 in
    let r = (job_at jobs p).release in
    record { time = time_after x.time w r until; left = set x.left p (work_after x.time w r until) }

abbrev pub next_point : List Job → SInstr → Point → Point
next_point jobs (Dispatch p until) x = dispatched jobs p until x
next_point jobs (Idle until) x = record { time = max x.time until; left = x.left }
next_point jobs End x = x

-- the slice of a dispatch that begins at `from` with this work and ends at `to`
abbrev pub slice_between : ℕ → ℕ → ℕ → ℕ → Option (ℕ × ℕ)
slice_between from until zero to = None
slice_between from until (suc w) to = elim (ltb from until) [ true ↦ Some (from, to) | false ↦ None ]

-- whether the last work was done
abbrev pub finishes_by : ℕ → ℕ → Bool
finishes_by (suc w) zero = true
finishes_by _ _ = false

abbrev pub position_of : SInstr → Option ℕ
position_of (Dispatch p until) = Some p
position_of _ = None

abbrev pub slice_of : List Job → SInstr → Point → ℕ → Option (ℕ × ℕ)
slice_of jobs (Dispatch p until) x to = slice_between (dispatch_begins x.time (job_at jobs p).release until) until (get_or x.left p 0) to
slice_of jobs _ x to = None

abbrev pub finished_by : SInstr → Point → Point → Bool
finished_by (Dispatch p until) x y = finishes_by (get_or x.left p 0) (get_or y.left p 0)
finished_by _ x y = false

-- what is told of an instruction, by the points before and after it
abbrev pub left_by : List Job → SInstr → Point → Point → Left
left_by jobs i x y =
    record { at = y.time; position = position_of i; slice = slice_of jobs i x y.time; finished = finished_by i x y }

abbrev pub walk_from : List Job → List SInstr → Point → List Left
walk_from jobs [] x = []
walk_from jobs (i ∷ is) x =
    let y = next_point jobs i x in
    left_by jobs i x y ∷ walk_from jobs is y

-- the work of each position: nothing where it is absent
abbrev pub work : List Job → List ℕ → List ℕ
work [] ns = []
work (j ∷ js) [] = 0 ∷ work js []
work (j ∷ js) (n ∷ ns) = cond j.present n 0 ∷ work js ns

abbrev pub first_point : List Job → List ℕ → Point
first_point jobs lengths = record { time = 0; left = work jobs lengths }

-- the whole walk: one record for each instruction
abbrev pub walk : List Job → List ℕ → List SInstr → List Left
walk jobs lengths s = walk_from jobs s (first_point jobs lengths)

-- ---- what a walk shows of a position

abbrev pub is_position : Option ℕ → ℕ → Bool
is_position (Some q) p = eqb q p
is_position None p = false

-- when the position finishes
abbrev pub finish : List Left → ℕ → Option ℕ
finish [] p = None
finish (l ∷ ls) p = let rest = finish ls p in cond (is_position l.position p && l.finished) (Some l.at) rest

abbrev pub slice_onto : Option (ℕ × ℕ) → List (ℕ × ℕ) → List (ℕ × ℕ)
slice_onto (Some s) rest = s ∷ rest
slice_onto None rest = rest

-- the slices in which the position runs, in order
abbrev pub slices : List Left → ℕ → List (ℕ × ℕ)
slices [] p = []
slices (l ∷ ls) p = let rest = slices ls p in cond (is_position l.position p) (slice_onto l.slice rest) rest

-- finished by then
abbrev pub DoneBy : List Left → ℕ → ℕ → Type 0
DoneBy ls p time = (f : ℕ) × (finish ls p ≡ Some f) × (f ≤ time)

abbrev pub AllWithin : ℕ → ℕ → List (ℕ × ℕ) → Type 0
AllWithin a b [] = Unit {0}
AllWithin a b (s ∷ ss) = (a ≤ s.0) × (s.1 ≤ b) × AllWithin a b ss

-- a job is done in its window, after its predecessors
pub record IsMet (jobs : List Job) (ls : List Left) (p : ℕ) (j : Job) : Type 0 where
  pub finishes : DoneBy ls p j.end
  pub within : AllWithin j.release j.end (slices ls p)
  pub after : (q : ℕ) (s : ℕ × ℕ) → precedes q j ≡ true → (job_at jobs q).present ≡ true → slice_get (slices ls p) 0 ≡ Some s → DoneBy ls q s.0

-- every present job is met
abbrev pub Meets : List Job → List ℕ → List SInstr → Type 0
Meets jobs lengths s =
    (p : ℕ) (j : Job) → slice_get jobs p ≡ Some j → j.present ≡ true → IsMet jobs (walk jobs lengths s) p j

-- ---- the form of a schedule, and when it is accepted

abbrev pub IsStep : ℕ → ℕ → SInstr → Type 0
IsStep count period (Dispatch p until) = (p < count) × (until ≤ period)
IsStep count period (Idle until) = until ≤ period
IsStep count period End = ⊥

abbrev pub InForm : ℕ → ℕ → List SInstr → Type 0
InForm count period [] = ⊥
InForm count period (End ∷ []) = Unit {0}
InForm count period (i ∷ is) = IsStep count period i × InForm count period is

-- at each dispatch of a position its predecessors are done
abbrev pub AreDone : List Job → Job → Point → Type 0
AreDone jobs j x = (q : ℕ) → precedes q j ≡ true → get_or x.left q 0 ≡ 0

abbrev pub InOrder : List Job → List SInstr → Point → Type 0
InOrder jobs [] x = Unit {0}
InOrder jobs (Dispatch p until ∷ is) x = AreDone jobs (job_at jobs p) x × InOrder jobs is (next_point jobs (Dispatch p until) x)
InOrder jobs (Idle until ∷ is) x = InOrder jobs is (next_point jobs (Idle until) x)
InOrder jobs (End ∷ is) x = InOrder jobs is (next_point jobs End x)

abbrev pub worst_cases : List Job → List ℕ
worst_cases jobs = map (λ j. j.worst) jobs

-- the worst-case walk is accepted
pub record ScheduleIsAccepted (jobs : List Job) (period : ℕ) (s : List SInstr) : Type 0 where
  pub form : InForm (length jobs) period s
  pub meets : Meets jobs (worst_cases jobs) s
  pub order : InOrder jobs s (first_point jobs (worst_cases jobs))

-- the records that were left before t
abbrev pub earlier : ℕ → List Left → List Left
earlier t [] = []
earlier t (l ∷ ls) = let rest = earlier t ls in cond (ltb l.at t) (l ∷ rest) rest

-- the point after all the instructions
abbrev pub last_point : List Job → List SInstr → Point → Point
last_point jobs [] x = x
last_point jobs (i ∷ is) x = last_point jobs is (next_point jobs i x)

-- the point of the walk before instruction k, which is that after the k instructions in front of it
abbrev pub point_at : List Job → List ℕ → List SInstr → ℕ → Point
point_at jobs lengths s k = last_point jobs (take k s) (first_point jobs lengths)
