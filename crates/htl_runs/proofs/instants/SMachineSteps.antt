-- The record half over an instant: records left, releases told, a list over.
use Rattle.std.proofs.Common.{◌≡◌, ℕ, suc, ◌+◌, ◌-◌, ◌≤◌, Bool, List, length, Option, refl, sym, ap, ◌∙◌, subst, arith}
use Rattle.htl_runs.proofs.Words.{Event, Stay, Tables, AreInRange, state, Round, all_reads, count_left_before, AreJobsSoFar, HaveWindows, Plan, list_walk, SMachineStands, SMachineAt, Turn, AreTurns, IsListed, due_by, Leaves, raise_all, IsStanding, standing_at}
use Rattle.htl_smach.specs.Rounds as rounds
use Rattle.htl_runs.proofs.{frames.FrameValues.count_grows, records.SMachineInstants.s_machine_opens, records.SMachineInstants.s_machine_closes, records.SMachineInstants.all_given, instants.DueReleases.flags_after}
use Rattle.htl_runs.proofs.frames.ServedWindows.{windows_of}

-- the round with these releases told
abbrev pub with_flags : Round → List Bool → Round
with_flags r bs = record r { released = bs }

-- before the instant it stands at the records before it; those of the instant are left
pub s_machine_left : (p : Plan) (s now : ℕ) (r r1 : Round) → s ≤ now → SMachineStands p s now r → Leaves r r1 p.schedule now → SMachineAt p s (due_by p s now) (now - s) r1
s_machine_left p s now r r1 past f leaves =
    leaves p s (count_left_before (now - s) (list_walk p)) (now - s) refl past (count_grows (now - s) (suc now - s) (list_walk p) (omega arith)) (s_machine_opens p s now r f)

-- the releases of the instant are told
pub s_machine_told : (t : Tables) (stays : List (Option Stay)) (n : ℕ) (p : Plan) (s k now : ℕ) (r : Round) → IsStanding t stays n → n ≤ now → s ≤ now → AreJobsSoFar t stays s now p.jobs → HaveWindows p.jobs → SMachineAt p s k (now - s) r
    → rounds.Stands (with_flags r (raise_all p.jobs (all_reads t now stays) r.released)) p.schedule
    → SMachineAt p s k (suc now - s) (with_flags r (raise_all p.jobs (all_reads t now stays) r.released))
s_machine_told t stays n p s k now r standing past begun jobs_so_far windows at st = grind (arith, flags_after)

module _ (t : Tables) (range : AreInRange t) (es : List Event) (turn : ℕ → Turn) (turns : AreTurns t es turn) where
  pub windows : (n : ℕ) → HaveWindows (turn n).plan.jobs
  windows n = windows_of (turn n).plan.jobs (turns.walk n) (turn n).frame n (turns.frames.runs n)

  -- the list that stands at an instant: once its records are left and its releases told, it stands before the next
  pub s_machine_on : (now : ℕ) (r : Round) → SMachineAt (turn now).plan (turn now).frame (due_by (turn now).plan (turn now).frame now) (now - (turn now).frame) r
      → rounds.Stands (with_flags r (raise_all (turn now).plan.jobs (all_reads t now (state t es now).stays) r.released)) (turn now).plan.schedule
      → SMachineStands (turn now).plan (turn now).frame (suc now) (with_flags r (raise_all (turn now).plan.jobs (all_reads t now (state t es now).stays) r.released))
  s_machine_on now r at st =
      let u = turn now in
      s_machine_closes u.plan u.frame now (with_flags r (raise_all u.plan.jobs (all_reads t now (state t es now).stays) r.released))
      (s_machine_told t (state t es now).stays now u.plan u.frame (due_by u.plan u.frame now) now r (standing_at t range es now) (omega arith) (turns.frames.past now) (turns.frames.jobs_so_far now) (windows now) at st)

  -- the list before is over where one begins
  pub s_machine_ends : (n : ℕ) (r r1 : Round) → (turn n).frame + (turn n).to ≡ suc n → IsListed (turn n) → SMachineStands (turn n).plan (turn n).frame (suc n) r → Leaves r r1 (turn n).plan.schedule (suc n)
      → SMachineAt (turn n).plan (turn n).frame (length (turn n).plan.schedule) (suc n - (turn n).frame) r1
  s_machine_ends n r r1 ends listed f leaves =
      let u = turn n in
      subst (λ k. SMachineAt u.plan u.frame k (suc n - u.frame) r1) (all_given u.plan u.frame (suc n) (length u.plan.jobs) u.to listed.form (omega (arith, listed.time, listed.order)) (sym ends))
      (s_machine_left u.plan u.frame (suc n) r r1 (omega (arith, turns.frames.past n)) f leaves)
