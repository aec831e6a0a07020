-- The first miss of a schedule: where its form is left, or else what goes wrong first in the worst-case walk.
use Rattle.std.specs.Prelude.{◌≡◌, ℕ, ◌+◌, ◌-◌, ◌≤◌, ◌<◌, ◌⊎◌, true, List, length, get_or, slice_get, Option, Some, None}
use Rattle.htl_walk.specs.{declared.job.Job.Job, declared.miss.Miss.Miss, declared.schedule.SInstr.SInstr, declared.schedule.SInstr.TheVariants.Dispatch, declared.schedule.SInstr.TheVariants.Idle, declared.schedule.SInstr.TheVariants.End}
use Rattle.htl_walk.specs.declared.miss.Miss.TheVariants as miss
use Rattle.htl_walk.specs.{Jobs.precedes, Walk.Point, Walk.job_at, Walk.point_at, Walk.worst_cases, Walk.InForm}

-- ---- the form

-- the list, with this at place k, departs from its form there: a position that doesn't exist, an offset past the
-- period, an `End` before the last place, or no `End` in front of the list's end
abbrev pub DepartsBy : ℕ → ℕ → List SInstr → ℕ → Option SInstr → Type 0
DepartsBy count period s k (Some (Dispatch p until)) = (count ≤ p) ⊎ (period < until)
DepartsBy count period s k (Some (Idle until)) = period < until
DepartsBy count period s k (Some End) = k + 1 < length s
DepartsBy count period s k None = (k ≡ length s) × (slice_get s (k - 1) ≡ Some End → ⊥)

abbrev pub DepartsAt : ℕ → ℕ → List SInstr → ℕ → Type 0
DepartsAt count period s k = DepartsBy count period s k (slice_get s k)

pub record IsFirstDeparture (count period : ℕ) (s : List SInstr) (k : ℕ) : Type 0 where
  pub here : DepartsAt count period s k
  pub first : (m : ℕ) → m < k → DepartsAt count period s m → ⊥

-- ---- the walk with the worst cases

-- the point before instruction k
abbrev pub worst_point : List Job → List SInstr → ℕ → Point
worst_point jobs s k = point_at jobs (worst_cases jobs) s k

abbrev pub DispatchesAt : List SInstr → ℕ → ℕ → Type 0
DispatchesAt s k p = (until : ℕ) × (slice_get s k ≡ Some (Dispatch p until))

-- instruction k dispatches position p while its predecessor q has work left
pub record IsTooEarly (jobs : List Job) (s : List SInstr) (k p q : ℕ) : Type 0 where
  pub dispatches : DispatchesAt s k p
  pub waits : precedes q (job_at jobs p) ≡ true
  pub left : 0 < get_or (worst_point jobs s k).left q 0

-- instruction k does the last work of position p, and this ends at f, after the window
pub record IsTooLate (jobs : List Job) (s : List SInstr) (k p f : ℕ) : Type 0 where
  pub dispatches : DispatchesAt s k p
  pub left : 0 < get_or (worst_point jobs s k).left p 0
  pub done : get_or (worst_point jobs s (k + 1)).left p 0 ≡ 0
  pub at : f ≡ (worst_point jobs s (k + 1)).time
  pub late : (job_at jobs p).end < f

-- nothing goes wrong at the instructions before place k
pub record IsCleanBefore (jobs : List Job) (s : List SInstr) (k : ℕ) : Type 0 where
  pub early : (m p q : ℕ) → m < k → IsTooEarly jobs s m p q → ⊥
  pub late : (m p f : ℕ) → m < k → IsTooLate jobs s m p f → ⊥

-- the lowest predecessor that isn't done at a dispatch
pub record IsFirstBefore (jobs : List Job) (s : List SInstr) (p q k : ℕ) : Type 0 where
  pub clean : IsCleanBefore jobs s k
  pub here : IsTooEarly jobs s k p q
  pub lowest : (r : ℕ) → r < q → IsTooEarly jobs s k p r → ⊥

-- a dispatch whose predecessors are done, and whose position finishes late
pub record IsFirstLate (jobs : List Job) (s : List SInstr) (p f window_end : ℕ) : Type 0 where
  pub place : ℕ
  pub clean : IsCleanBefore jobs s place
  pub ready : (q : ℕ) → IsTooEarly jobs s place p q → ⊥
  pub here : IsTooLate jobs s place p f
  pub end : window_end ≡ (job_at jobs p).end

-- the lowest position that has work left at the end of the list
pub record IsFirstUnfinished (jobs : List Job) (s : List SInstr) (p left : ℕ) : Type 0 where
  pub clean : IsCleanBefore jobs s (length s)
  pub is : left ≡ get_or (worst_point jobs s (length s)).left p 0
  pub some : 0 < left
  pub lowest : (q : ℕ) → q < p → get_or (worst_point jobs s (length s)).left q 0 ≡ 0

-- the first miss: the form before the walk, and in the walk by the place of the instruction, there the predecessors
-- before the finish; work that is left at the end comes last
abbrev pub IsFirstMiss : List Job → ℕ → List SInstr → Miss → Type 0
IsFirstMiss jobs period s (miss.Order k) = IsFirstDeparture (length jobs) period s k
IsFirstMiss jobs period s (miss.Before p q k) = InForm (length jobs) period s × IsFirstBefore jobs s p q k
IsFirstMiss jobs period s (miss.Late p f window_end) = InForm (length jobs) period s × IsFirstLate jobs s p f window_end
IsFirstMiss jobs period s (miss.Unfinished p left) = InForm (length jobs) period s × IsFirstUnfinished jobs s p left
