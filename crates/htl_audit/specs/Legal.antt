-- When a job log is legal for a run, and its first fault.
use Rattle.std.specs.Prelude.{◌≡◌, ℕ, suc, ◌+◌, ◌-◌, Bool, false, cond, not, ◌&&◌, ◌||◌, eqb, leb, ltb, List, [], ◌∷◌, ◌++◌, length, get_or, slice_get, take, Option, Some, None}
use Rattle.std.specs.List.{list_all, list_any}
use Rattle.htl_model.specs.{declared.event.Event.Event, Lists.numbered, Tables.Tables}
use Rattle.htl_walk.specs.{declared.job.Job.Job, Jobs.precedes}
use Rattle.htl_audit.specs.{declared.slice.Slice.Slice, declared.slice.LogKind.LogKind, declared.slice.LogFault.LogFault, Jobs.BeginningJobs, Jobs.all_rounds}
use Rattle.htl_audit.specs.declared.slice.LogKind.TheVariants as kind

-- ---- slices and jobs

-- a slice of the job's invocation in the job's window
abbrev pub lies_in : BeginningJobs → Job → Slice → Bool
lies_in r j x = j.present && eqb x.inv j.inv && leb (r.start + j.release) x.from && leb x.to (r.start + j.end)

-- the ticks of the job's slices
abbrev pub ticks : BeginningJobs → Job → List Slice → ℕ
ticks r j [] = 0
ticks r j (x ∷ xs) = cond (lies_in r j x) (x.to - x.from) 0 + ticks r j xs

-- how long the job at a position takes
abbrev pub job_length : BeginningJobs → ℕ → ℕ
job_length r p = get_or r.lengths p 0

-- the slices of the job at the position add up to what it takes
abbrev pub is_done : BeginningJobs → List Slice → ℕ × Job → Bool
is_done r log j = eqb (ticks r j.1 log) (job_length r j.0)

-- so do those of each present job that precedes this one
abbrev pub is_free : BeginningJobs → List Slice → Job → Bool
is_free r log j = list_all (λ (k : ℕ × Job). not (precedes k.0 j && k.1.present) || is_done r log k) (numbered 0 r.jobs)

-- the slices of the job have more ticks than it takes
abbrev pub is_over : BeginningJobs → List Slice → ℕ × Job → Bool
is_over r log j = ltb (job_length r j.0) (ticks r j.1 log)

-- the window of a present job ended before `now`, and its slices have fewer ticks than it takes
abbrev pub is_short : ℕ → BeginningJobs → List Slice → ℕ × Job → Bool
is_short now r log j = j.1.present && ltb (r.start + j.1.end) now && ltb (ticks r j.1 log) (job_length r j.0)

-- some job of the rounds passes
abbrev pub any_job : (BeginningJobs → ℕ × Job → Bool) → List BeginningJobs → Bool
any_job test rounds = list_any (λ (r : BeginningJobs). list_any (test r) (numbered 0 r.jobs)) rounds

-- ---- one line, against the lines before it, before the instant `now`

abbrev pub last_end : List Slice → ℕ
last_end [] = 0
last_end (x ∷ []) = x.to
last_end (x ∷ y ∷ xs) = last_end (y ∷ xs)

-- the slice is empty, or begins before the last one ends, or doesn't end before `now`
abbrev pub slice_is_out_of_order : ℕ → List Slice → Slice → Bool
slice_is_out_of_order now log x = leb x.to x.from || ltb x.from (last_end log) || leb now x.to

-- the first rule that the line breaks
abbrev pub line_fault : List BeginningJobs → ℕ → List Slice → Slice → Option LogKind
line_fault rounds now log x =
    cond (slice_is_out_of_order now log x) (Some kind.Order)
    (cond (not (any_job (λ r j. lies_in r j.1 x) rounds)) (Some kind.Outside)
    (cond (any_job (λ r j. lies_in r j.1 x && is_over r (log ++ x ∷ []) j) rounds) (Some kind.Over)
    (cond (any_job (λ r j. lies_in r j.1 x && not (is_free r log j.1)) rounds) (Some kind.Before) None)))

-- ---- the log

abbrev pub fault_at : ℕ → LogKind → LogFault
fault_at n k = record { line = n; kind = k }

-- the first line that breaks a rule, of the lines from number n on, behind these
abbrev pub first_line_fault : List BeginningJobs → ℕ → ℕ → List Slice → List Slice → Option LogFault
first_line_fault rounds now n log [] = None
first_line_fault rounds now n log (x ∷ xs) =
    elim (line_fault rounds now log x) [ Some k ↦ Some (fault_at n k) | None ↦ first_line_fault rounds now (suc n) (log ++ x ∷ []) xs ]

-- some job is short
abbrev pub any_short : List BeginningJobs → ℕ → List Slice → Bool
any_short rounds now log = any_job (λ r j. is_short now r log j) rounds

-- behind the last line
abbrev pub end_fault : Bool → ℕ → Option LogFault
end_fault b n = cond b (Some (fault_at (suc n) kind.Short)) None

-- the first fault of a log, of a run that ends before `now`
abbrev pub first_fault_in : List BeginningJobs → ℕ → List Slice → Option LogFault
first_fault_in rounds now log =
    elim (first_line_fault rounds now 1 [] log) [ Some f ↦ Some f | None ↦ end_fault (any_short rounds now log) (length log) ]

-- the first fault of a log for the run of these events that ends with `end`
abbrev pub first_fault : Tables → List Event → ℕ → List Slice → Option LogFault
first_fault t es end log = first_fault_in (all_rounds t es (suc end)) (suc end) log

-- ---- legal

-- each line keeps the rules against the lines before it, and no job is short
pub record IsLegalIn (rounds : List BeginningJobs) (now : ℕ) (log : List Slice) : Type 0 where
  pub lines : (i : ℕ) (x : Slice) → slice_get log i ≡ Some x → line_fault rounds now (take i log) x ≡ None
  pub whole : any_short rounds now log ≡ false

abbrev pub IsLegal : Tables → List Event → ℕ → List Slice → Type 0
IsLegal t es end log = IsLegalIn (all_rounds t es (suc end)) (suc end) log

-- ---- the numbers of an audit

abbrev pub how_many : {A : Type 0} → (A → Bool) → List A → ℕ
how_many test [] = 0
how_many test (x ∷ xs) = cond (test x) 1 0 + how_many test xs

-- the present jobs whose slices add up to what they take
abbrev pub jobs_done : List BeginningJobs → List Slice → ℕ
jobs_done [] log = 0
jobs_done (r ∷ rs) log = how_many (λ (j : ℕ × Job). j.1.present && is_done r log j) (numbered 0 r.jobs) + jobs_done rs log
