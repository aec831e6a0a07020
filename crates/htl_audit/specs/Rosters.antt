-- When what is kept by invocation are the jobs of rounds.
use Rattle.std.specs.Prelude.{◌≡◌, ◌≤◌, ◌⊎◌, ◌+◌, ℕ, true, List, length, slice_get, Some}
use Rattle.htl_model.specs.{PortOrder.feeds, Tables.Tables}
use Rattle.htl_walk.specs.{declared.job.Job.Job, Jobs.precedes}
use Rattle.htl_audit.specs.{declared.slice.Slice.Slice, Jobs.BeginningJobs, Legal.ticks, Legal.last_end, Legal.jobs_done}
use Rattle.htl_audit.specs.Legal as rules
use Rattle.htl_audit.specs.Keeping.{Roster, Kept, has_job, sum_at, length_at, start_at, release_at, end_at}

-- the job j at position p of r, which is one of these rounds; it is present
pub record IsIn (rounds : List BeginningJobs) (r : BeginningJobs) (p : ℕ) (j : Job) : Type 0 where
  pub number : ℕ
  pub at : slice_get rounds number ≡ Some r
  pub job : slice_get r.jobs p ≡ Some j
  pub present : j.present ≡ true

-- it is what is kept of its invocation
pub record IsCurrent (t : Tables) (o : Roster) (r : BeginningJobs) (p : ℕ) (j : Job) : Type 0 where
  pub stands : has_job o j.inv ≡ true
  pub start : r.start ≡ start_at o j.inv
  pub release : j.release ≡ release_at t j.inv
  pub end : j.end ≡ end_at t j.inv
  pub length : rules.job_length r p ≡ length_at o j.inv

-- the job of an invocation
pub record HasJob (t : Tables) (rounds : List BeginningJobs) (o : Roster) (i : ℕ) : Type 0 where
  pub round : BeginningJobs
  pub position : ℕ
  pub job : Job
  pub is : IsIn rounds round position job
  pub inv : job.inv ≡ i
  pub current : IsCurrent t o round position job

-- what stands by invocation are the jobs of the rounds that began last; the windows of all others ended before
pub record AreKept (t : Tables) (rounds : List BeginningJobs) (o : Roster) : Type 0 where
  pub has : (i : ℕ) → has_job o i ≡ true → HasJob t rounds o i
  pub only : (r : BeginningJobs) (p : ℕ) (j : Job) → IsIn rounds r p j → IsCurrent t o r p j ⊎ (r.start + j.end ≤ start_at o j.inv)
  -- what feeds a job stands with it, where it is of its round
  pub together : (r : BeginningJobs) (p q : ℕ) (j h : Job) → IsIn rounds r p j → IsIn rounds r q h → feeds t h.inv j.inv ≡ true → IsCurrent t o r p j → IsCurrent t o r q h
  -- a job precedes another of its round where it feeds it; what feeds a job is of its round
  pub before : (r : BeginningJobs) (p q : ℕ) (j h : Job) → IsIn rounds r p j → IsIn rounds r q h → precedes q j ≡ feeds t h.inv j.inv
  pub mates : (r : BeginningJobs) (p : ℕ) (j : Job) (i : ℕ) → IsIn rounds r p j → IsCurrent t o r p j → has_job o i ≡ true → feeds t i j.inv ≡ true
      → (q : ℕ) × (h : Job) × (h.inv ≡ i) × IsIn rounds r q h
  -- an invocation has one job among them
  pub once : (r s : BeginningJobs) (p q : ℕ) (j h : Job) (a : IsIn rounds r p j) (b : IsIn rounds s q h) → IsCurrent t o r p j → IsCurrent t o s q h → j.inv ≡ h.inv → (a.number ≡ b.number) × (p ≡ q)

-- the lines so far, none of which breaks a rule, and what is kept of them
pub record AreSummed (t : Tables) (rounds : List BeginningJobs) (log : List Slice) (k : Kept) : Type 0 where
  pub kept : AreKept t rounds k.roster
  pub place : k.place ≡ length log
  pub end : k.end ≡ last_end log
  pub room : length k.sums ≡ length k.roster.stands
  pub sums : (r : BeginningJobs) (p : ℕ) (j : Job) → IsIn rounds r p j → IsCurrent t k.roster r p j → ticks r j log ≡ sum_at k.sums j.inv
  pub done : k.done ≡ jobs_done rounds log

-- every list of what is kept by invocation has so many entries
pub record IsSized (n : ℕ) (k : Kept) : Type 0 where
  pub stands : length k.roster.stands ≡ n
  pub starts : length k.roster.starts ≡ n
  pub lengths : length k.roster.lengths ≡ n
  pub sums : length k.sums ≡ n
