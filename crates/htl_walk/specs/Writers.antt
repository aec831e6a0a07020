-- What the invocations at the positions write, as the code collects it.
use Rattle.std.specs.Prelude.{◌≡◌, ◌<◌, ℕ, Bool, true, List, [], length, get_or, slice_get, Option, Some, None}
use Rattle.htl_model.specs.{declared.parts.Inv.Inv, declared.parts.End.End, Bits.cell, Lists.places_from, PortTable.writes_to, Selected.is_running, Tables.Tables, Tables.task_worst, Tables.release, Tables.window_end}
use Rattle.htl_walk.specs.{declared.job.Job.Job, Jobs.absent_job}

-- the invocation that stands, if one does
abbrev pub inv_of : Tables → Option ℕ → Option Inv
inv_of t None = None
inv_of t (Some n) = slice_get t.invs n

abbrev pub reads_of : Option Inv → List End
reads_of (Some i) = i.reads
reads_of None = []

-- the table has for each port a bit for each position whose invocation writes it
abbrev pub AreWriters : Tables → List (Option ℕ) → List ℕ → Type 0
AreWriters t standing table = (p q : ℕ) → p < length table → cell table p q ≡ writes_to (inv_of t (get_or standing q None)) p

-- the job of an invocation with these predecessors
abbrev pub job_with : Tables → Option ℕ → ℕ → Job
job_with t None preds = absent_job
job_with t (Some k) preds =
    elim (slice_get t.invs k) [
      | None ↦ absent_job
      | Some i ↦ record { present = true; inv = k; release = release t i; end = window_end t i; worst = task_worst t i.task; preds = preds }
    ]

-- whether an invocation stands where the root modules are in these modes
abbrev pub stands : Tables → List (Option ℕ) → Inv → Bool
stands t modes i = is_running t modes i.mode

-- the invocations that stand, in their order
abbrev pub standing_in : Tables → List (Option ℕ) → List ℕ
standing_in t modes = places_from (stands t modes) 0 t.invs
