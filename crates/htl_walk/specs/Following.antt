-- What one instruction of the worst-case walk does, as it is followed.
use Rattle.std.specs.Prelude.{◌≡◌, ℕ, ◌≤◌, ◌<◌, ◌⊎◌, true, ltb, List, length, get_or}
use Rattle.htl_model.specs.Bits.{has_bit}
use Rattle.htl_walk.specs.{declared.job.Job.Job, declared.miss.Miss.Miss, declared.schedule.SInstr.SInstr, declared.schedule.SInstr.TheVariants.Dispatch, Jobs.precedes, Walk.Point, Walk.job_at, Walk.next_point, Walk.AreDone}
use Rattle.htl_walk.specs.declared.miss.Miss.TheVariants as miss

-- the row has a bit for each position with work left
abbrev pub ArePending : ℕ → List ℕ → Type 0
ArePending row left = (q : ℕ) → has_bit row q ≡ ltb 0 (get_or left q 0)

-- the position of a dispatch is one of so many
abbrev pub IsKnown : ℕ → SInstr → Type 0
IsKnown count (Dispatch p until) = p < count
IsKnown count _ = Unit {0}

-- the predecessors of the position that is dispatched are done
abbrev pub IsReady : List Job → SInstr → Point → Type 0
IsReady jobs (Dispatch p until) x = AreDone jobs (job_at jobs p) x
IsReady jobs _ x = Unit {0}

-- a position that is finished is finished in its window
abbrev pub IsInTime : List Job → SInstr → Point → Point → Type 0
IsInTime jobs (Dispatch p until) x y = 0 < get_or x.left p 0 → get_or y.left p 0 ≡ 0 → y.time ≤ (job_at jobs p).end
IsInTime jobs _ x y = Unit {0}

-- the finish offsets before and after an instruction between these points: that of a position that it finishes is the time after it
pub record AreFinishesAfter (count : ℕ) (x y : Point) (old new : List ℕ) : Type 0 where
  pub finished : (p : ℕ) → p < count → 0 < get_or x.left p 0 → get_or y.left p 0 ≡ 0 → get_or new p 0 ≡ y.time
  pub others : (p : ℕ) → (get_or x.left p 0 ≡ 0) ⊎ (0 < get_or y.left p 0) → get_or new p 0 ≡ get_or old p 0

-- an instruction without a miss
pub record IsFollowed (jobs : List Job) (i : SInstr) (x y : Point) (old new : List ℕ) : Type 0 where
  pub next : y ≡ next_point jobs i x
  pub ready : IsReady jobs i x
  pub in_time : IsInTime jobs i x y
  pub finishes : AreFinishesAfter (length jobs) x y old new

-- instruction `at` dispatches p while q, its lowest predecessor with work left, isn't done
pub record IsBeforeAt (jobs : List Job) (i : SInstr) (x : Point) (p q : ℕ) : Type 0 where
  pub dispatches : (until : ℕ) × (i ≡ Dispatch p until)
  pub waits : precedes q (job_at jobs p) ≡ true
  pub left : 0 < get_or x.left q 0
  pub lowest : (r : ℕ) → r < q → precedes r (job_at jobs p) ≡ true → get_or x.left r 0 ≡ 0

pub record IsLateAt (jobs : List Job) (i : SInstr) (x : Point) (p f window_end : ℕ) : Type 0 where
  pub dispatches : (until : ℕ) × (i ≡ Dispatch p until)
  pub ready : AreDone jobs (job_at jobs p) x
  pub left : 0 < get_or x.left p 0
  pub done : get_or (next_point jobs i x).left p 0 ≡ 0
  pub at : f ≡ (next_point jobs i x).time
  pub late : (job_at jobs p).end < f
  pub end : window_end ≡ (job_at jobs p).end

-- the miss of the instruction at this place
abbrev pub IsMissAt : List Job → SInstr → ℕ → Point → Miss → Type 0
IsMissAt jobs i k x (miss.Before p q at) = (at ≡ k) × IsBeforeAt jobs i x p q
IsMissAt jobs i k x (miss.Late p f window_end) = IsLateAt jobs i x p f window_end
IsMissAt jobs i k x _ = ⊥
