-- One instruction: how the time and the work left go.
use Rattle.std.proofs.Common.{◌≡◌, ◌≢◌, ℕ, zero, suc, ◌+◌, ◌-◌, ◌≤◌, ◌<◌, min, List, length, get_or, set, sym, ap, ◌∙◌, subst, arith, inl, inr, get_or-set_other, get_or-set_same}
use Rattle.htl_walk.proofs.Words.{get_or_past, length-set, Job, SInstr, Dispatch, Point, job_at, dispatch_begins, time_after, work_after, next_point, cases_eq, cases_lt}

work_below : (a b w v r s h : ℕ) → a ≤ b → w ≤ v → r ≤ s → work_after a w r h ≤ work_after b v s h
work_below a b w v r s h p q l = omega arith

time_below_running : (a b w v r s h : ℕ) → a ≤ b → w ≤ v → r ≤ s → dispatch_begins a r h + min w (h - dispatch_begins a r h) ≤ dispatch_begins b s h + min v (h - dispatch_begins b s h)
time_below_running a b w v r s h p q l = omega arith

pub work_below_running : (a b w v r s h : ℕ) → a ≤ b → w ≤ v → (0 < w → r ≤ s) → work_after a w r h ≤ work_after b v s h
work_below_running a b zero v r s h p q l = omega arith
work_below_running a b (suc w) v r s h p q l = work_below a b (suc w) v r s h p q (l (omega arith))

pub time_passes : (a w r h : ℕ) → a ≤ time_after a w r h
time_passes a zero r h = omega arith
time_passes a (suc w) r h = omega arith

pub time_below : (a b w v r s h : ℕ) → a ≤ b → w ≤ v → (0 < w → r ≤ s) → time_after a w r h ≤ time_after b v s h
time_below a b zero v r s h p q l = let e : b ≤ time_after b v s h = time_passes b v s h in omega arith
time_below a b (suc w) zero r s h p q l = absurd (omega arith)
time_below a b (suc w) (suc v) r s h p q l = time_below_running a b (suc w) (suc v) r s h p q (l (omega arith))

zero-sub : (n : ℕ) → 0 - n ≡ 0
zero-sub n = omega arith

pub left_same : (l : List ℕ) (p now r h : ℕ) → get_or (set l p (work_after now (get_or l p 0) r h)) p 0 ≡ work_after now (get_or l p 0) r h
left_same l p now r h = grind (arith, cases_lt, get_or-set_same, get_or_past, set, length-set, zero-sub)

pub left_other : (l : List ℕ) (p q v : ℕ) → p ≢ q → get_or (set l p v) q 0 ≡ get_or l q 0
left_other l p q v n = get_or-set_other l p q v 0 (λ e. n (sym e))

-- the work left of q after an instruction is no more than before
pub left_falls : (jobs : List Job) (i : SInstr) (x : Point) (q : ℕ) → get_or (next_point jobs i x).left q 0 ≤ get_or x.left q 0
left_falls jobs (Dispatch p h) x q = grind (arith, cases_eq, left_same, left_other)
left_falls jobs _ x q = omega arith

pub time_rises : (jobs : List Job) (i : SInstr) (x : Point) → x.time ≤ (next_point jobs i x).time
time_rises jobs (Dispatch p h) x = time_passes x.time (get_or x.left p 0) (job_at jobs p).release h
time_rises jobs _ x = omega arith
