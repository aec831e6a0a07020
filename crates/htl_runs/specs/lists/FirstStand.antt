-- The S machine as a list of a run begins.
use Rattle.std.specs.Prelude.{◌≡◌, ◌≤◌, ◌<◌, ℕ, ◌+◌, ◌-◌, ◌%◌, pred, cond, eqb, List, length, get_or, Option}
use Rattle.htl_runs.specs.Common.{Event, frame_of, Tables, SInstr, HaveLengths, AreWithinWorst, CanBegin, new_jobs, modes_at, took, IsFeasibleRun}
use Rattle.htl_smach.specs.Rounds.{Round, round_begun, added}
use Rattle.htl_runs.specs.{records.SMachineStands.SMachineAt, lists.RunLists.list_turn, lists.ListLengths.kept_lengths}

-- that of a frame's start begins anew, another goes on with further positions: by the modes of the instant, and the lengths that are kept
abbrev pub list_begun : Tables → List (Option ℕ) → List ℕ → ℕ → Round → Round
list_begun t modes takes at r =
    let a = at % frame_of t in
    let first = new_jobs t modes a 0 in
    let more = new_jobs t modes a (length r.jobs) in
    cond (eqb a 0) (round_begun at first (kept_lengths takes first)) (added r at more (kept_lengths takes more))

-- what it asks for
pub record CanStart (t : Tables) (modes : List (Option ℕ)) (takes : List ℕ) (at : ℕ) (r : Round) : Type 0 where
  pub first : at % frame_of t ≡ 0 → let js = new_jobs t modes (at % frame_of t) 0 in HaveLengths js (kept_lengths takes js) × AreWithinWorst js (kept_lengths takes js)
  pub more : 0 < at % frame_of t → let js = new_jobs t modes (at % frame_of t) (length r.jobs) in (r.start ≤ at) × CanBegin r (at - r.start) js (kept_lengths takes js)

-- behind a frame's start the S machine stands at the end of the list before, all releases before the instant told
abbrev pub IsAtEnd : Tables → List (List SInstr) → List Event → ℕ → Round → Type 0
IsAtEnd t lists es at r = 0 < at % frame_of t → let v = list_turn t lists es (pred at) in SMachineAt v.plan v.frame (length v.plan.schedule) (at - v.frame) r

-- so it stands at the beginning of the list that begins
abbrev pub ListsAreBegun : Type 0
ListsAreBegun =
    (t : Tables) (lists : List (List SInstr)) (es : List Event) → IsFeasibleRun t lists es → (at : ℕ) (takes : List ℕ) (r : Round)
    → (list_turn t lists es at).frame + (list_turn t lists es at).from ≡ at → ((i u : ℕ) → at ≤ u → get_or takes i 0 ≡ took t es i u) → IsAtEnd t lists es at r
    → (let u = list_turn t lists es at in CanStart t (modes_at t es at) takes at r × SMachineAt u.plan u.frame 0 (at - u.frame) (list_begun t (modes_at t es at) takes at r))
