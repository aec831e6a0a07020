-- What is written and counted while the records of an instant are left.
use Rattle.std.specs.Prelude.{◌≡◌, ◌≤◌, ℕ, ◌-◌, cond, List, [], ◌++◌, slice_get, Option, Some, None}
use Rattle.htl_machine.specs.{Common.Result, Common.append_known, Common.Puts, Common.joined, Common.Tables, Common.SInstr, Common.Round, Common.Shown, Common.Plan, declared.tally.Tally.Tally, Counts.with_records}
use Rattle.htl_walk.specs.declared.job.Job.{Job}
use Rattle.htl_console.specs.{Lines.done_line, Lines.slice_line, Lines.step_line, Shows.shows_code, Shows.shows_jobs}
use Rattle.htl_runs.specs.{records.SMachineStands.SMachineAt, records.DueRecords.due_by, lines.RunRecords.inv_at, lines.RunRecords.record_of, lines.RunRecords.some_records, lines.RunLines.record_text}
use Rattle.htl_smach.specs.declared.left.Left.{Left}

-- ---- the lines of one record

-- its slice
abbrev pub slice_text : Tables → ℕ → Option (ℕ × ℕ) → List ℕ
slice_text t i o = elim o [ Some s ↦ slice_line t s.0 s.1 i | None ↦ [] ]

-- and whether it did the last work of its job
abbrev pub job_text : Tables → Shown → List Job → Left → List ℕ
job_text t show jobs l = let i = inv_at jobs l.position in cond (shows_jobs show) (slice_text t i l.slice ++ cond l.finished (done_line t l.at i) []) []

-- the instruction at a place of a schedule
abbrev pub place_text : List SInstr → ℕ → ℕ → ℕ → List ℕ
place_text code node at k = elim (slice_get code k) [ Some x ↦ step_line at node k x | None ↦ [] ]

-- its instruction
abbrev pub code_text : Shown → List SInstr → ℕ → Left → List ℕ
code_text show code node l = cond (shows_code show) (place_text code node l.at l.instr) []

-- all, of a record of a list at a node
abbrev pub plan_text : Tables → Shown → Plan → ℕ → Left → List ℕ
plan_text t show p node l = record_text t show (record_of p.jobs node p.schedule l)

-- ---- the records of an instant

-- wherever the S machine stood, the lines of the records that are due from there on are written
abbrev pub Prints : {T E : Type 0} → Tables → Shown → ℕ → Round → List SInstr → ℕ → Option (List ℕ) → Option (List ℕ) → ℕ → ℕ → Result T E → Type 0
Prints t show node old code at w0 w f0 f result =
    (p : Plan) (s k d : ℕ) → p.schedule ≡ code → s ≤ at → k ≤ due_by p s at → SMachineAt p s k d old
    → Puts w0 w f0 f (joined (plan_text t show p node) (some_records p s k (due_by p s at - k))) result

-- and they are counted
abbrev pub Counted : Round → List SInstr → ℕ → Tally → Tally → Type 0
Counted old code at n0 n =
    (p : Plan) (s k d : ℕ) → p.schedule ≡ code → s ≤ at → k ≤ due_by p s at → SMachineAt p s k d old → n ≡ with_records (some_records p s k (due_by p s at - k)) n0

-- those that the S machine has left are written and counted
pub record IsPrinting (t : Tables) (show : Shown) (node : ℕ) (old now : Round) (code : List SInstr) (at : ℕ) (w0 w : Option (List ℕ)) (f0 f : ℕ) (n0 n : Tally) : Type 0 where
  pub kept : f ≡ f0
  pub text : (p : Plan) (s k d : ℕ) → p.schedule ≡ code → s ≤ at → k ≤ due_by p s at → SMachineAt p s k d old → w ≡ append_known w0 (joined (plan_text t show p node) (some_records p s k (now.place - k)))
  pub count : (p : Plan) (s k d : ℕ) → p.schedule ≡ code → s ≤ at → k ≤ due_by p s at → SMachineAt p s k d old → n ≡ with_records (some_records p s k (now.place - k)) n0
