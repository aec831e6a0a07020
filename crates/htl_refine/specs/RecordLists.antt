-- The records of an instant are those of the list that ran up to it, and of the list that begins at it.
use Rattle.std.specs.Prelude.{◌≡◌, ◌≢◌, ℕ, ◌+◌, ◌*◌, ◌/◌, ◌≤◌, ◌<◌, List, [], length, get_or, slice_get, Some}
use Rattle.htl_refine.specs.{Common.Event, Common.frame_of, Common.starts, Common.node, Common.Tables, Common.SInstr, FrameRecords.RunningList, FrameRecords.lists_at, FrameRecords.left_in, FrameRecords.old_records, FrameRecords.new_records}
use Rattle.htl_refine.specs.{FrameRuns.frame_modes, FrameRuns.path_of, FrameRuns.frame_at, ListPlans.leg_at, ListPlans.list_plan, ListPlans.list_walk, ServedFrames.IsFeasibleRun}

-- list j of the frame from f, as it runs
abbrev pub list_at : Tables → List (List SInstr) → List Event → ℕ → ℕ → RunningList
list_at t lists es f j =
    let p = frame_at t lists es f in
    record { from = f + (leg_at p j).from; node = node t (path_of t (frame_modes t es f)) j; code = get_or p.lists j []; walk = list_walk (list_plan p j) }

-- these are the lists of a frame
abbrev pub ListsRun : Type 0
ListsRun = (t : Tables) (lists : List (List SInstr)) (es : List Event) (f j : ℕ) → IsFeasibleRun t lists es → j < length (starts t) → slice_get (lists_at t lists es f) j ≡ Some (list_at t lists es f j)

-- of the lists that began before an instant only the last has records at it
abbrev pub OldRecords : Type 0
OldRecords =
    (t : Tables) (lists : List (List SInstr)) (es : List Event) (k j now : ℕ) → IsFeasibleRun t lists es → j < length (starts t)
    → (let f = k * frame_of t in
    (list_at t lists es f j).from < now → now ≤ f + (leg_at (frame_at t lists es f) j).to → old_records t lists es now ≡ left_in now f (list_at t lists es f j))

-- before the first instant none began
abbrev pub NoOldRecords : Type 0
NoOldRecords = (t : Tables) (lists : List (List SInstr)) (es : List Event) → IsFeasibleRun t lists es → old_records t lists es 0 ≡ []

-- the records of the list that begins at an instant
abbrev pub NewRecords : Type 0
NewRecords =
    (t : Tables) (lists : List (List SInstr)) (es : List Event) (k j : ℕ) → IsFeasibleRun t lists es → j < length (starts t)
    → (let f = k * frame_of t in let r = list_at t lists es f j in new_records t lists es r.from ≡ left_in r.from f r)

-- where no list begins there are none
abbrev pub NoNewRecords : Type 0
NoNewRecords =
    (t : Tables) (lists : List (List SInstr)) (es : List Event) (now : ℕ) → IsFeasibleRun t lists es → ((j : ℕ) → j < length (starts t) → frame_of t * (now / frame_of t) + get_or (starts t) j 0 ≢ now)
    → new_records t lists es now ≡ []
