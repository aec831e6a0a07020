-- The laws of the walk.
use Rattle.std.specs.Prelude.{◌≡◌, ℕ, ◌≤◌, ◌<◌, true, List, get_or, slice_get, All, Option, Some}
use Rattle.htl_model.specs.{Exchanged.with_functions, Tables.Tables, Tables.Fun}
use Rattle.htl_walk.specs.{declared.job.Job.Job, Jobs.jobs_standing, Jobs.abstract_jobs, declared.schedule.SInstr.SInstr, Walk.point_at, Walk.walk, Walk.earlier, Walk.worst_cases, Walk.Meets, Walk.ScheduleIsAccepted, Misses.IsFirstMiss}
use Rattle.htl_walk.specs.{declared.miss.Miss.Miss, Refinement.Refines, Refinement.HasWork, Refinement.HaveLengths, Refinement.AreWithinWorst}

-- the lengths of the present jobs that are released before t agree
abbrev pub AgreeBefore : ℕ → List Job → List ℕ → List ℕ → Type 0
AgreeBefore t jobs ns ms =
    (p : ℕ) (j : Job) → slice_get jobs p ≡ Some j → j.present ≡ true → j.release < t → get_or ns p 0 ≡ get_or ms p 0

-- what is left before t doesn't depend on the lengths of jobs that are released at t or later
abbrev pub UnreleasedLengths : Type 0
UnreleasedLengths =
    (jobs : List Job) (ns ms : List ℕ) (s : List SInstr) (t : ℕ) → HaveLengths jobs ns → HaveLengths jobs ms → AgreeBefore t jobs ns ms
    → earlier t (walk jobs ns s) ≡ earlier t (walk jobs ms s)

-- the walk of jobs js with these lengths runs ahead of the worst-case walk of ks, and meets
pub record IsDominated (js ks : List Job) (lengths : List ℕ) (s : List SInstr) : Type 0 where
  pub time : (k : ℕ) → (point_at js lengths s k).time ≤ (point_at ks (worst_cases ks) s k).time
  pub left : (k p : ℕ) → get_or (point_at js lengths s k).left p 0 ≤ get_or (point_at ks (worst_cases ks) s k).left p 0
  pub meets : Meets js lengths s

-- a schedule that is accepted for jobs, all of them present, serves all jobs that refine them, with any lengths up to
-- their worst cases
abbrev pub Dominance : Type 0
Dominance =
    (js ks : List Job) (lengths : List ℕ) (s : List SInstr) (period : ℕ) → All HasWork ks → Refines js ks → HaveLengths js lengths → AreWithinWorst js lengths
    → ScheduleIsAccepted ks period s → IsDominated js ks lengths s

-- a schedule has one first miss at most
abbrev pub OneFirstMiss : Type 0
OneFirstMiss = (jobs : List Job) (period : ℕ) (s : List SInstr) (m n : Miss) → IsFirstMiss jobs period s m → IsFirstMiss jobs period s n → m ≡ n

-- tables with other functions have the same jobs
pub record SameJobs (t u : Tables) : Type 0 where
  pub jobs : (standing : List (Option ℕ)) → jobs_standing t standing ≡ jobs_standing u standing
  pub selections : (sel : ℕ) → abstract_jobs t sel ≡ abstract_jobs u sel

abbrev pub FunctionsDecideNoJob : Type 0
FunctionsDecideNoJob = (t : Tables) (fs : List Fun) → SameJobs t (with_functions t fs)
