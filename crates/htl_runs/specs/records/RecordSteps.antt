-- The world and the S machine while the records of an instant are left.
use Rattle.std.specs.Prelude.{◌≡◌, ◌≤◌, ◌<◌, ℕ, ◌-◌, true, List, length, slice_get, IfSome, Some}
use Rattle.htl_runs.specs.Common.{Tables, is_concrete, Job, SInstr, job_at, Round, Stands, IsInForm, IsTold, Content, IsShaped, Plan, list_walk}
use Rattle.htl_runs.specs.{values.FinishedJobs.run_records, records.SMachineStands.SMachineAt, records.DueRecords.due_by}

-- each present job is of a concrete invocation
abbrev pub AreOf : Tables → List Job → Type 0
AreOf t jobs = (p : ℕ) (j : Job) → slice_get jobs p ≡ Some j → j.present ≡ true → (j.inv < length t.invs) × IfSome (slice_get t.invs j.inv) (λ x. is_concrete t x ≡ true)

-- wherever the S machine stood, it goes on in the same list, and the world has what these records do
abbrev pub GoesWith : Tables → Round → Content → Round → Content → List SInstr → ℕ → Type 0
GoesWith t old w0 now w code at =
    (p : Plan) (s k d : ℕ) → p.schedule ≡ code → s ≤ at → k ≤ due_by p s at → SMachineAt p s k d old
    → (m : ℕ) × (k ≤ m) × (m ≤ due_by p s at) × SMachineAt p s m d now × (w ≡ run_records t p.jobs (list_walk p) (m - k) k w0)

-- once no more is answered, all records that are due are given and done
abbrev pub Records : Tables → Round → Content → Round → Content → List SInstr → ℕ → Type 0
Records t old w0 now w code at =
    (p : Plan) (s k d : ℕ) → p.schedule ≡ code → s ≤ at → k ≤ due_by p s at → SMachineAt p s k d old
    → SMachineAt p s (due_by p s at) d now × (w ≡ run_records t p.jobs (list_walk p) (due_by p s at - k) k w0)

pub record IsRecording (t : Tables) (old : Round) (w0 : Content) (now : Round) (w : Content) (jobs : List Job) (code : List SInstr) (at : ℕ) : Type 0 where
  pub form : now.running ≡ true → IsInForm now code
  pub stands : Stands now code
  pub told : IsTold now at
  pub are : now.jobs ≡ jobs
  pub shaped : IsShaped t w
  pub goes : GoesWith t old w0 now w code at

-- a present job of a concrete invocation is at the position
abbrev pub IsJobOf : Tables → List Job → ℕ → Type 0
IsJobOf t jobs p = (p < length jobs) × ((job_at jobs p).inv < length t.invs) × IfSome (slice_get t.invs (job_at jobs p).inv) (λ x. is_concrete t x ≡ true)
