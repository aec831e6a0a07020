-- A dispatch that waits until it is over, and how the time goes on.
use Rattle.std.proofs.Common.{◌≡◌, ℕ, zero, suc, ◌+◌, ◌-◌, ◌≤◌, ◌<◌, min, Bool, true, false, ltb, List, [], ◌∷◌, Some, None, ap, ◌∙◌, arith, inr}
use Rattle.htl_walk.proofs.Words.{le-ltb, Job, SInstr, Point, Left, dispatch_begins, finishes_by, slice_between, time_after, work_after, next_point, last_point}
use Rattle.htl_walk.proofs.{Steps.time_rises, Finishes.finishes_no}

-- what is told of a dispatch, by the work before and after it
abbrev pub told_by : ℕ → ℕ → ℕ → ℕ → ℕ → ℕ → Left
told_by p now r h w v =
    record { at = time_after now w r h; position = Some p; slice = slice_between (dispatch_begins now r h) h w (time_after now w r h); finished = finishes_by w v }

pub told_same : (p r h now now' w w' v v' : ℕ) → now ≡ now' → w ≡ w' → v ≡ v' → told_by p now r h w v ≡ told_by p now' r h w' v'
told_same p r h now now' w w' v v' e f g = grind arith

-- a dispatch that waits till it is over runs nothing
abbrev pub waited : ℕ → ℕ → Left
waited p at = record { at = at; position = Some p; slice = None; finished = false }

pub told_waits : (p r h now w v : ℕ) → 0 < w → 0 < v → h ≤ dispatch_begins now r h → told_by p now r h w v ≡ waited p (dispatch_begins now r h)
told_waits p r h now zero v a b c = absurd (omega arith)
told_waits p r h now (suc w) v a b c = grind (arith, le-ltb, finishes_no)

pub time_waits : (now w r h : ℕ) → h ≤ dispatch_begins now r h → 0 < w → time_after now w r h ≡ dispatch_begins now r h
time_waits now zero r h a b = absurd (omega arith)
time_waits now (suc w) r h a b = omega arith

pub work_waits : (now w r h : ℕ) → h ≤ dispatch_begins now r h → work_after now w r h ≡ w
work_waits now w r h a = omega arith

-- the time at the end of a list is no earlier than at its beginning
pub time_rises_to : (jobs : List Job) (s : List SInstr) (x : Point) → x.time ≤ (last_point jobs s x).time
time_rises_to jobs [] x = omega arith
time_rises_to jobs (i ∷ is) x = omega (arith, time_rises jobs i x, time_rises_to jobs is (next_point jobs i x))
