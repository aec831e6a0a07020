-- The S machine in a list: before an instant, and inside one.
use Rattle.std.specs.Prelude.{◌≡◌, ℕ, ◌-◌, Bool, ◌&&◌, ltb, List, length, map}
use Rattle.htl_runs.specs.Common.{Job, Round, count_left_before, Plan, list_walk}
use Rattle.htl_smach.specs.Rounds as rounds

-- the positions whose release falls before an offset
abbrev pub released_before : ℕ → List Job → List Bool
released_before d jobs = map (λ j. j.present && ltb j.release d) jobs

-- the S machine stands in the list, of the frame from s, all records before `now` given
pub record SMachineStands (p : Plan) (s now : ℕ) (r : Round) : Type 0 where
  pub start : r.start ≡ s
  pub jobs : r.jobs ≡ p.jobs
  pub lengths : length r.lengths ≡ length r.jobs
  -- its walk begins where those of the lists before it end
  pub first : r.first ≡ p.first
  pub place : r.place ≡ count_left_before (now - s) (list_walk p)
  pub running : r.running ≡ ltb r.place (length p.schedule)
  pub released : r.released ≡ released_before (now - s) p.jobs
  pub stands : rounds.Stands r p.schedule

-- ---- inside an instant

-- the S machine stands in the list, of the frame from s, k of its records given, the releases before an offset told
pub record SMachineAt (p : Plan) (s k d : ℕ) (r : Round) : Type 0 where
  pub start : r.start ≡ s
  pub jobs : r.jobs ≡ p.jobs
  pub lengths : length r.lengths ≡ length r.jobs
  -- its walk begins where those of the lists before it end
  pub first : r.first ≡ p.first
  pub place : r.place ≡ k
  pub running : r.running ≡ ltb k (length p.schedule)
  pub released : r.released ≡ released_before d p.jobs
  pub stands : rounds.Stands r p.schedule
