-- The lines of a run's text by their kinds: those of a record, and the job lines of a run.
use Rattle.std.specs.Prelude.{◌≡◌, ℕ, suc, Bool, true, false, cond, eqb, ◌||◌, List, [], ◌∷◌, ◌++◌, All, Option, Some, None}
use Rattle.htl_runs.specs.Common.{filter, Event, Line, joined, up_to, hyper, Tables, SInstr, EInstr, Shown, shows_jobs, shows_code, slice_line, done_line, instr_line, step_line}
use Rattle.htl_base.specs.Names.{is_name}
use Rattle.htl_model.specs.Lines.{line_text, totals_line}
use Rattle.htl_runs.specs.lines.RunRecords.{RunRecord, old_records, new_records}

-- a line of a run's text: a slice of an invocation's job, a job that is done, an E instruction, a value or mode that changed, an
-- S instruction, the totals
pub data RunLine : Type 0 where
  SliceLine : (from to inv : ℕ) → RunLine
  DoneLine : (at inv : ℕ) → RunLine
  InstrLine : (at address : ℕ) (instr : EInstr) → RunLine
  ChangeLine : (change : Line) → RunLine
  StepLine : (at node place : ℕ) (instr : SInstr) → RunLine
  TotalsLine : (at jobs e s : ℕ) → RunLine

-- `j FROM TO NAME`, `d AT NAME`, `e AT ADDRESS TEXT`, `v AT NAME VALUE` or `m AT NAME MODE`, `s AT NODE:PLACE TEXT`, `end AT ..`
abbrev pub printed : Tables → RunLine → List ℕ
printed t (SliceLine from to i) = slice_line t from to i
printed t (DoneLine at i) = done_line t at i
printed t (InstrLine at address x) = instr_line t at address x
printed t (ChangeLine x) = line_text t x
printed t (StepLine at node place x) = step_line at node place x
printed t (TotalsLine at jobs e s) = totals_line at jobs e s

abbrev pub is_job_line : RunLine → Bool
is_job_line (SliceLine from to i) = true
is_job_line (DoneLine at i) = true
is_job_line _ = false

-- ---- the lines of a record

-- the slice that it closes
abbrev pub closed_slice_line : ℕ → Option (ℕ × ℕ) → List RunLine
closed_slice_line i (Some s) = SliceLine s.0 s.1 i ∷ []
closed_slice_line i None = []

-- that its job is done
abbrev pub job_done_line : ℕ → Bool → ℕ → List RunLine
job_done_line at finished i = cond finished (DoneLine at i ∷ []) []

-- both, of the invocation of its job
abbrev pub job_lines : RunRecord → List RunLine
job_lines x = closed_slice_line x.inv x.left.slice ++ job_done_line x.left.at x.left.finished x.inv

-- the instruction at its place
abbrev pub step_lines : RunRecord → List RunLine
step_lines x = elim x.instr [ Some i ↦ StepLine x.left.at x.node x.left.instr i ∷ [] | None ↦ [] ]

-- those that are shown
abbrev pub record_lines : Shown → RunRecord → List RunLine
record_lines show x = cond (shows_jobs show) (job_lines x) [] ++ cond (shows_code show) (step_lines x) []

-- as bytes
abbrev pub record_text : Tables → Shown → RunRecord → List ℕ
record_text t show x = joined (printed t) (record_lines show x)

-- ---- the job lines of a run

-- of all records at an instant: of the lists that began before it, and of the list that begins there
abbrev pub job_lines_at : Tables → List (List SInstr) → List Event → Option ℕ → ℕ → List RunLine
job_lines_at t lists es o now = joined job_lines (old_records t lists es o now) ++ joined job_lines (new_records t lists es o now)

-- of the records at the instants 0 to `end`
abbrev pub job_lines_to : Tables → List (List SInstr) → List Event → ℕ → List RunLine
job_lines_to t lists es end = up_to (job_lines_at t lists es (hyper t)) (suc end)

-- ---- a text that shows jobs

-- the text is printed line by line, and its j and d lines are these
pub record ShowsJobs (t : Tables) (text : List ℕ) (jobs : List RunLine) : Type 0 where
  pub lines : List RunLine
  pub whole : text ≡ joined (printed t) lines
  pub of_jobs : filter is_job_line lines ≡ jobs

-- ---- a text as a reader cuts it

-- a byte in front of the first line
abbrev pub onto_first : ℕ → List (List ℕ) → List (List ℕ)
onto_first b [] = (b ∷ []) ∷ []
onto_first b (line ∷ lines) = (b ∷ line) ∷ lines

-- the lines of a text, which is cut behind each line feed
abbrev pub text_lines : List ℕ → List (List ℕ)
text_lines [] = []
text_lines (b ∷ bs) = let rest = text_lines bs in cond (eqb b 10) ((b ∷ []) ∷ rest) (onto_first b rest)

-- a line that begins with `j` or with `d`
abbrev pub begins_as_job : List ℕ → Bool
begins_as_job [] = false
begins_as_job (b ∷ bs) = eqb b 106 || eqb b 100

-- the names that lines show are identifiers
pub record HasNames (t : Tables) : Type 0 where
  pub comms : All (λ c. is_name c.name ≡ true) t.comms
  pub modes : All (λ m. is_name m.name ≡ true) t.modes
  pub modules : All (λ x. is_name x.name ≡ true) t.modules
  pub tasks : All (λ k. is_name k.name ≡ true) t.tasks
