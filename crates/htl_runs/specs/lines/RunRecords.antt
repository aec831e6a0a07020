-- The records of a run, each with what its lines show: those of its frames, and those of the list that stands.
use Rattle.std.specs.Prelude.{ℕ, zero, suc, ◌+◌, ◌-◌, ◌*◌, ◌/◌, Bool, cond, eqb, List, [], ◌++◌, map, take, drop, slice_get, Option, Some, None}
use Rattle.htl_runs.specs.Common.{filter, Event, joined, up_to, hyper, Tables, Job, SInstr, job_at, RunningList, lists_at, left_in, begun_before, begins_at, frame_at, rounds_before, Plan, list_walk}
pub use Rattle.htl_smach.specs.declared.left.Left.{Left}
use Rattle.htl_smach.specs.Rounds.{told_from}
use Rattle.htl_runs.specs.{records.DueRecords.as_told, lists.StandingLists.Turn, lists.StandingLists.left_before, lists.RunLists.turn_at}

-- the invocation of the job at a position; 0 where there is none
abbrev pub inv_at : List Job → Option ℕ → ℕ
inv_at jobs (Some p) = (job_at jobs p).inv
inv_at jobs None = 0

-- a record, with the invocation of its job, the node of its list, and the instruction at its place
pub record RunRecord : Type 0 where
  pub left : Left
  pub inv : ℕ
  pub node : ℕ
  pub instr : Option SInstr

-- of a list with these jobs, at this node, of these instructions
abbrev pub record_of : List Job → ℕ → List SInstr → Left → RunRecord
record_of jobs node code l = record { left = l; inv = inv_at jobs l.position; node = node; instr = slice_get code l.instr }

-- ---- over frames

-- those of a list of the frame from f that are left at an instant
abbrev pub list_records : Tables → List (List SInstr) → List Event → ℕ → ℕ → RunningList → List RunRecord
list_records t lists es now f r = map (λ l. record_of (frame_at t lists es f).jobs r.node r.code (as_told l)) (left_in now f r)

-- of those of its lists that these are
abbrev pub lists_records : Tables → List (List SInstr) → List Event → (RunningList → Bool) → ℕ → ℕ → List RunRecord
lists_records t lists es which now f = joined (list_records t lists es now f) (filter which (lists_at t lists es f))

-- of the lists that began before the instant; none without modules
abbrev pub old_records : Tables → List (List SInstr) → List Event → Option ℕ → ℕ → List RunRecord
old_records t lists es None now = []
old_records t lists es (Some h) now = up_to (λ k. lists_records t lists es (begun_before now) now (k * h)) (rounds_before h now)

-- of the list that begins there: none of them closes a slice or finishes a job
abbrev pub new_records : Tables → List (List SInstr) → List Event → Option ℕ → ℕ → List RunRecord
new_records t lists es None now = []
new_records t lists es (Some h) now = lists_records t lists es (begins_at now) now (h * (now / h))

-- all records of the instant
abbrev pub instant_records : Tables → List (List SInstr) → List Event → ℕ → List RunRecord
instant_records t lists es now = old_records t lists es (hyper t) now ++ new_records t lists es (hyper t) now

-- ---- of the list that stands

-- so many records of the list, of the frame from s, from place k on, by instants
abbrev pub some_records : Plan → ℕ → ℕ → ℕ → List Left
some_records p s k n = take n (drop k (told_from s 0 (list_walk p)))

-- the list that stood before an instant
abbrev pub old_turn : (ℕ → Turn) → ℕ → Turn
old_turn turn zero = turn 0
old_turn turn (suc n) = turn n

-- its records
abbrev pub turn_old_records : (ℕ → Turn) → ℕ → List Left
turn_old_records turn zero = []
turn_old_records turn (suc n) =
    let u = turn n in
    let k = left_before u (suc n) in
    some_records u.plan u.frame k (left_before u (suc (suc n)) - k)

-- of the list that begins at it
abbrev pub turn_new_records : (ℕ → Turn) → ℕ → List Left
turn_new_records turn now = let u = turn now in cond (eqb (u.frame + u.from) now) (some_records u.plan u.frame 0 (left_before u (suc now))) []

-- records of a list at a node
abbrev pub plan_records : Plan → ℕ → List Left → List RunRecord
plan_records p node ls = map (record_of p.jobs node p.schedule) ls

-- those of the list that stood before the instant, and of the list that begins there; none without modules
abbrev pub standing_old : Tables → List (List SInstr) → List Event → Option ℕ → ℕ → List RunRecord
standing_old t lists es None now = []
standing_old t lists es (Some period) now =
    let turn = turn_at t lists es in
    let u = old_turn turn now in
    plan_records u.plan u.node (turn_old_records turn now)

abbrev pub standing_new : Tables → List (List SInstr) → List Event → Option ℕ → ℕ → List RunRecord
standing_new t lists es None now = []
standing_new t lists es (Some period) now =
    let turn = turn_at t lists es in
    let u = turn now in
    plan_records u.plan u.node (turn_new_records turn now)
