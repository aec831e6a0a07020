-- The laws of the walk of a path.
use Rattle.std.specs.Prelude.{◌≡◌, ℕ, ◌-◌, ◌≤◌, ◌<◌, ◌⊎◌, ◌↔◌, true, List, [], ◌∷◌, ◌++◌, take, replicate, length, get_or, slice_get, Some}
use Rattle.std.specs.List.{All}
use Rattle.htl_walk.specs.{declared.job.Job.Job, declared.schedule.SInstr.SInstr, declared.miss.Miss.Miss, Jobs.absent_job, Jobs.precedes, Misses.IsFirstMiss, WellFormed.AreWellFormed, WellFormed.EndWithin}
use Rattle.htl_walk.specs.{Walk.Point, Walk.job_at, Walk.last_point, Walk.walk, Walk.first_point, Walk.worst_cases, Walk.ScheduleIsAccepted, PathMisses.IsPathMiss, PathMisses.IsListClean, PathMisses.AreClean}
use Rattle.htl_walk.specs.Refinement.{Refines, RefinesJob, HasWork, HaveLengths, AreWithinWorst}
use Rattle.htl_walk.specs.Paths.{Leg, walks_from, walk_path, path_point_at, PathMeets, AreInForm, IsPathAccepted, AreChained, AgreeOn, AgreeAt, AreWithin}

-- the one leg of a frame with one start
abbrev pub whole : ℕ → ℕ → Leg
whole period count = record { from = 0; to = period; known = count }

-- the walk of one list is the walk of a round
abbrev pub OneList : Type 0
OneList = (jobs : List Job) (lengths : List ℕ) (period : ℕ) (s : List SInstr) → walk_path jobs lengths (s ∷ []) (whole period (length jobs) ∷ []) ≡ walk jobs lengths s ∷ []

abbrev pub OneListAccepted : Type 0
OneListAccepted = (jobs : List Job) (period : ℕ) (s : List SInstr) → IsPathAccepted jobs (whole period (length jobs) ∷ []) (s ∷ []) ↔ ScheduleIsAccepted jobs period s

-- the walk of jobs js with these lengths runs ahead of the worst-case walk of ks, and meets
pub record IsPathDominated (js ks : List Job) (lengths : List ℕ) (ss : List (List SInstr)) (gs : List Leg) : Type 0 where
  pub time : (j k : ℕ) → (path_point_at js lengths ss gs j k).time ≤ (path_point_at ks (worst_cases ks) ss gs j k).time
  pub left : (j k p : ℕ) → get_or (path_point_at js lengths ss gs j k).left p 0 ≤ get_or (path_point_at ks (worst_cases ks) ss gs j k).left p 0
  pub meets : PathMeets js lengths ss gs

-- lists that are accepted for jobs, all of them present, serve all jobs that refine them, with any lengths up to their
-- worst cases
abbrev pub PathDominance : Type 0
PathDominance =
    (js ks : List Job) (lengths : List ℕ) (ss : List (List SInstr)) (gs : List Leg) (period : ℕ) → All HasWork ks → Refines js ks → HaveLengths js lengths → AreWithinWorst js lengths
    → AreChained 0 period (length ks) gs → IsPathAccepted ks gs ss → IsPathDominated js ks lengths ss gs

-- a path is accepted exactly where none of its lists has a miss
abbrev pub Accepting : Type 0
Accepting =
    (jobs : List Job) (ss : List (List SInstr)) (gs : List Leg) (period : ℕ) → AreWellFormed jobs → EndWithin jobs period → AreChained 0 period (length jobs) gs
    → AreClean jobs ss gs (first_point jobs (worst_cases jobs)) ↔ IsPathAccepted jobs gs ss

-- a path with a miss is not accepted
abbrev pub PathRefused : Type 0
PathRefused =
    (jobs : List Job) (ss : List (List SInstr)) (gs : List Leg) (period : ℕ) (m : Miss) → AreWellFormed jobs → EndWithin jobs period → AreChained 0 period (length jobs) gs
    → IsPathMiss jobs ss gs 0 (first_point jobs (worst_cases jobs)) m → IsPathAccepted jobs gs ss → ⊥

-- a path has one first miss at most
abbrev pub OnePathMiss : Type 0
OnePathMiss = (jobs : List Job) (ss : List (List SInstr)) (gs : List Leg) (n : ℕ) (x : Point) (a b : Miss) → IsPathMiss jobs ss gs n x a → IsPathMiss jobs ss gs n x b → a ≡ b

-- the first miss of one list is that of a round
abbrev pub OneListMiss : Type 0
OneListMiss =
    (jobs : List Job) (period : ℕ) (s : List SInstr) (m : Miss) → EndWithin jobs period → length s ≤ 4294967295
    → IsPathMiss jobs (s ∷ []) (whole period (length jobs) ∷ []) 0 (first_point jobs (worst_cases jobs)) m ↔ IsFirstMiss jobs period s m

-- lists that know the first n positions alone have the same walk where the jobs agree on these
abbrev pub Locality : Type 0
Locality =
    (n : ℕ) (js ks : List Job) (ss : List (List SInstr)) (gs : List Leg) (x y : Point) → AgreeOn n js ks → AgreeAt n x y → AreInForm ss gs → AreWithin n gs
    → walks_from js ss gs x ≡ walks_from ks ss gs y

-- the jobs so far, one for each of the first positions, refine those of the path
pub record RefinesFront (js ks : List Job) : Type 0 where
  pub within : length js ≤ length ks
  pub each : (p : ℕ) (j : Job) → slice_get js p ≡ Some j → j.present ≡ true → (k : Job) × (slice_get ks p ≡ Some k) × RefinesJob ks p j k

-- the walk of jobs so far over the lists so far is the front of a walk that meets, in which the positions behind them are
-- absent
pub record IsInherited (js ks : List Job) (lengths : List ℕ) (ss : List (List SInstr)) (gs : List Leg) (k : ℕ) : Type 0 where
  pub front : walk_path js lengths (take k ss) (take k gs) ≡ take k (walk_path (js ++ replicate (length ks - length js) absent_job) lengths ss gs)
  pub meets : PathMeets (js ++ replicate (length ks - length js) absent_job) lengths ss gs

abbrev pub PathInheritance : Type 0
PathInheritance =
    (js ks : List Job) (lengths : List ℕ) (ss : List (List SInstr)) (gs : List Leg) (period k : ℕ) → All HasWork ks → RefinesFront js ks → HaveLengths js lengths → AreWithinWorst js lengths
    → AreChained 0 period (length ks) gs → AreWithin (length js) (take k gs) → IsPathAccepted ks gs ss → IsInherited js ks lengths ss gs k

-- what a list is, clean or with this miss, depends on the positions that it knows alone, where these wait for one another
abbrev pub WaitWithin : ℕ → List Job → Type 0
WaitWithin n js = (p q : ℕ) → p < n → precedes q (job_at js p) ≡ true → q < n

abbrev pub CleanAlike : Type 0
CleanAlike =
    (n c b : ℕ) (js ks : List Job) (s : List SInstr) (x y : Point) → AgreeOn n js ks → WaitWithin n ks → AgreeAt n x y → c ≤ n → ((p : ℕ) → n ≤ p → b < (job_at ks p).end ⊎ (get_or (last_point ks s y).left p 0 ≡ 0))
    → IsListClean c b js s x → IsListClean c b ks s y × AgreeAt n (last_point js s x) (last_point ks s y)
