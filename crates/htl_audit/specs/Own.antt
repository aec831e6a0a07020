-- The job lines of a run itself, as a log.
use Rattle.std.specs.Prelude.{◌≡◌, ℕ, suc, ◌*◌, Bool, true, false, eqb, List, [], ◌∷◌, map, Option, Some, None}
use Rattle.std.specs.List.{filter}
use Rattle.htl_model.specs.{declared.event.Event.Event, Frames.hyper, Lists.all_some, Lists.joined, Lists.up_to, Tables.Tables}
use Rattle.htl_object.specs.{declared.object.Object.Object, Accepted.IsAccepted}
use Rattle.htl_walk.specs.{declared.job.Job.Job, declared.schedule.SInstr.SInstr, Walk.Left, Walk.job_at}
use Rattle.htl_refine.specs.{FrameRecords.RunningList, FrameRecords.lists_at, FrameRecords.left_in, FrameRecords.begun_before, FrameRuns.frame_at, Records.AreTookWithin, Records.rounds_before}
use Rattle.htl_console.specs.{declared.shown.Shown.Shown, Lines.slice_line, Shows.shows_jobs}
use Rattle.htl_runs.specs.{lines.RunLines.RunLine, lines.RunLines.printed, lines.RunLines.text_lines, lines.RunLines.HasNames, lines.RunLines.RunLine.SliceLine, lines.Programs.schedules_of, lines.Programs.text_of}
use Rattle.htl_audit.specs.{declared.slice.Slice.Slice, Legal.first_fault, Legal.IsLegal}

-- the slice of a record, if it has one
abbrev pub own_slice : List Job → ℕ × Left → Option Slice
own_slice jobs l =
    elim l.1.position [
      | None ↦ None
      | Some p ↦ elim l.1.slice [ Some s ↦ Some (record { from = s.0; to = s.1; inv = (job_at jobs p).inv }) | None ↦ None ]
    ]

-- the slices that close at an instant, of a list of the frame from f
abbrev pub list_slices : Tables → List (List SInstr) → List Event → ℕ → ℕ → RunningList → List Slice
list_slices t lists es now f r = all_some (own_slice (frame_at t lists es f).jobs) (left_in now f r)

-- of its lists that began before
abbrev pub own_of : Tables → List (List SInstr) → List Event → ℕ → ℕ → List Slice
own_of t lists es f now = joined (list_slices t lists es now f) (filter (begun_before now) (lists_at t lists es f))

-- of all frames that began before; without modules there are none
abbrev pub own_at : Tables → List (List SInstr) → List Event → Option ℕ → ℕ → List Slice
own_at t lists es None now = []
own_at t lists es (Some h) now = up_to (λ k. own_of t lists es (k * h) now) (rounds_before h now)

-- the slices that close by the end of the run
abbrev pub own_log : Tables → List (List SInstr) → List Event → ℕ → List Slice
own_log t lists es end = up_to (own_at t lists es (hyper t)) (suc end)

-- ---- the log as it is printed

-- the slice of a j line
abbrev pub line_slice : RunLine → Option Slice
line_slice (SliceLine from to i) = Some (record { from = from; to = to; inv = i })
line_slice _ = None

-- the text is printed line by line, and its j lines are those of the log, in order
pub record ShowsLog (t : Tables) (text : List ℕ) (log : List Slice) : Type 0 where
  pub lines : List RunLine
  pub whole : text ≡ joined (printed t) lines
  pub of_log : all_some line_slice lines ≡ log

-- a line that begins with `j`
abbrev pub begins_as_slice : List ℕ → Bool
begins_as_slice [] = false
begins_as_slice (b ∷ bs) = eqb b 106

-- `j FROM TO NAME`
abbrev pub slice_text : Tables → Slice → List ℕ
slice_text t x = slice_line t x.from x.to x.inv

-- ---- the laws

-- of an accepted object, whatever the sensors show and however long the jobs take within their worst cases: the job lines of a run are
-- a legal log for it, whenever it ends
abbrev pub OwnLogIsLegal : Type 0
OwnLogIsLegal =
    (o : Object) (es : List Event) (end : ℕ) → IsAccepted o → AreTookWithin o.tables es
    → let log = own_log o.tables (schedules_of o) es end in IsLegal o.tables es end log × (first_fault o.tables es end log ≡ None)

-- where jobs are shown, the j lines of the text of a run are this log, line by line
abbrev pub OwnLogIsPrinted : Type 0
OwnLogIsPrinted =
    (o : Object) (es : List Event) (show : Shown) (end : ℕ) → shows_jobs show ≡ true → ShowsLog o.tables (text_of o es show end) (own_log o.tables (schedules_of o) es end)

-- so a reader finds these lines and no others who cuts the text behind each line feed and takes the lines that begin with `j`
abbrev pub OwnLogIsFound : Type 0
OwnLogIsFound =
    (o : Object) (es : List Event) (show : Shown) (end : ℕ) → HasNames o.tables → shows_jobs show ≡ true
    → filter begins_as_slice (text_lines (text_of o es show end)) ≡ map (slice_text o.tables) (own_log o.tables (schedules_of o) es end)
