-- The list that stands at an instant: of which frame and node it is, what the processor knows in it, and what the lists before it left.
use Rattle.std.specs.Prelude.{◌≡◌, ◌<◌, ◌≤◌, ◌⊎◌, ℕ, zero, suc, ◌+◌, ◌-◌, Bool, true, List, ◌++◌, length, take, get_or, Option, Some, None}
use Rattle.htl_runs.specs.{Common.Event, Common.Tables, Common.HaveLengths, Common.AreWithinWorst, Common.Round, Common.no_round, Common.count_left_before, Common.done_by, frames.FrameSteps.AreFrames, frames.LastPositions.finished_in}
use Rattle.htl_walk.specs.Walk.{Left, InForm, job_at, last_point}
use Rattle.htl_refine.specs.ListPlans.{ListPlan, list_walk}
use Rattle.htl_runs.specs.records.SMachineStands.{SMachineStands}

pub record Turn : Type 0 where
  -- when its frame began
  pub frame : ℕ
  -- its number in the frame
  pub list : ℕ
  -- the offsets at which it begins, and at which the next begins or the frame ends
  pub from : ℕ
  pub to : ℕ
  -- whose list it is
  pub node : ℕ
  pub plan : ListPlan
  -- the records of the lists before it
  pub earlier : List Left

-- ---- its records

abbrev pub turn_walk : Turn → List Left
turn_walk u = list_walk u.plan

-- those of the frame so far
abbrev pub records_so_far : Turn → List Left
records_so_far u = u.earlier ++ turn_walk u

-- how many of its own are left before an instant
abbrev pub left_before : Turn → ℕ → ℕ
left_before u now = count_left_before (now - u.frame) (turn_walk u)

-- the jobs that are finished once its first k records are left
abbrev pub turn_finished_by : Turn → ℕ → ℕ → Bool
turn_finished_by u k i = finished_in u.plan.jobs (done_by (records_so_far u) (length u.earlier + k)) i

-- ---- a run, list by list

-- the records of a whole frame, of which those so far are the first
pub record IsTurn (u : Turn) (walk : List Left) (n : ℕ) : Type 0 where
  pub past : u.frame + u.from ≤ n
  pub rest : List Left
  pub front : walk ≡ records_so_far u ++ rest
  -- of them so many are left before the next instant
  pub count : count_left_before (suc n - u.frame) walk ≡ length u.earlier + left_before u (suc n)
  -- and up to it
  pub upto : (p : ℕ) → done_by walk (count_left_before (suc (suc n) - u.frame) walk) p ≡ done_by walk (length u.earlier + left_before u (suc (suc n))) p

-- at each instant the jobs are those so far, the records of the frame serve them, and those of the list that stands are among them
pub record AreTurns (t : Tables) (es : List Event) (turn : ℕ → Turn) : Type 0 where
  pub walk : ℕ → List Left
  pub frames : AreFrames t es (λ n. record { frame = (turn n).frame; jobs = (turn n).plan.jobs; walk = walk n })
  pub each : (n : ℕ) → IsTurn (turn n) (walk n) n

-- what its schedule and its lengths keep: it is in form up to its end, begins at its start with lengths from one tick to the worst
-- cases, and who has no work left after k instructions of it is done by the records so far
pub record IsListed (u : Turn) : Type 0 where
  pub form : InForm (length u.plan.jobs) u.to u.plan.schedule
  pub time : u.plan.first.time ≡ u.from
  pub order : u.from ≤ u.to
  pub least : HaveLengths u.plan.jobs u.plan.lengths
  pub most : AreWithinWorst u.plan.jobs u.plan.lengths
  pub worked : (k p : ℕ) → p < length u.plan.jobs → k ≤ length u.plan.schedule → (job_at u.plan.jobs p).present ≡ true
      → get_or (last_point u.plan.jobs (take k u.plan.schedule) u.plan.first).left p 0 ≡ 0 → done_by (records_so_far u) (length u.earlier + k) p ≡ true

-- from instant to instant a list goes on, or it is over and the next begins; the first begins at once
pub record AreListed (turn : ℕ → Turn) : Type 0 where
  pub each : (n : ℕ) → IsListed (turn n)
  pub first : (turn 0).frame + (turn 0).from ≡ 0
  pub on : (n : ℕ) → (turn (suc n) ≡ turn n) ⊎ (((turn (suc n)).frame + (turn (suc n)).from ≡ suc n) × ((turn n).frame + (turn n).to ≡ suc n))

-- ---- the S machine

-- before an instant the S machine stands in the list that began last before it; without modules there is none
abbrev pub SMachineFollows : (ℕ → Turn) → Option ℕ → ℕ → Round → Type 0
SMachineFollows turn None now r = r ≡ no_round
SMachineFollows turn (Some period) zero r = r ≡ no_round
SMachineFollows turn (Some period) (suc n) r = SMachineStands (turn n).plan (turn n).frame (suc n) r
