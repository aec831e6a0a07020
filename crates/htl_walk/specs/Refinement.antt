-- Jobs that refine others: what an accepted schedule carries over to.
use Rattle.std.specs.Prelude.{◌≡◌, ℕ, ◌≤◌, true, List, length, get_or, slice_get, Some}
use Rattle.htl_model.specs.PortOrder.{Leads}
use Rattle.htl_walk.specs.{declared.job.Job.Job, Jobs.precedes, Walk.job_at}

-- position q precedes position p, directly or through further positions
abbrev pub LeadsTo : List Job → ℕ → ℕ → Type 0
LeadsTo jobs q p = Leads (λ a b. precedes a (job_at jobs b)) q p

-- the job j refines the job k at position p
pub record RefinesJob (jobs : List Job) (p : ℕ) (j k : Job) : Type 0 where
  pub present : k.present ≡ true
  pub release : j.release ≤ k.release
  pub end : k.end ≤ j.end
  pub worst : j.worst ≤ k.worst
  pub preds : (q : ℕ) → precedes q j ≡ true → LeadsTo jobs q p

-- position by position a present job has its release no later, its window end no earlier and its worst case no greater,
-- and its predecessors are among those through further positions
pub record Refines (js ks : List Job) : Type 0 where
  pub same : length js ≡ length ks
  pub each : (p : ℕ) (j : Job) → slice_get js p ≡ Some j → j.present ≡ true → (k : Job) × (slice_get ks p ≡ Some k) × RefinesJob ks p j k

-- a present job, with some work
pub record HasWork (j : Job) : Type 0 where
  pub present : j.present ≡ true
  pub worst : 1 ≤ j.worst

-- each present job has a length of at least 1
abbrev pub HaveLengths : List Job → List ℕ → Type 0
HaveLengths jobs lengths = (p : ℕ) (j : Job) → slice_get jobs p ≡ Some j → j.present ≡ true → 1 ≤ get_or lengths p 0

-- no present job takes longer than its worst case
abbrev pub AreWithinWorst : List Job → List ℕ → Type 0
AreWithinWorst jobs lengths = (p : ℕ) (j : Job) → slice_get jobs p ≡ Some j → j.present ≡ true → get_or lengths p 0 ≤ j.worst
