-- What `go` shows of the jobs of a source, down to the lines.
use Rattle.std.specs.Prelude.{◌≡◌, ℕ, List, ◌++◌, map}
use Rattle.std.specs.List.{filter}
use Rattle.htl_top.specs.Common.{Slice, built, CanBuild, IsTablesOf, Jobs, lines_of, text_of, schedules_of, Event, hyper, lines_text, value_lines, Tables}
use Rattle.htl_audit.specs.{Legal.IsLegal, Own.begins_as_slice, Own.slice_text}
use Rattle.htl_runs.specs.{lines.RunLines.printed, lines.RunLines.job_lines_at, lines.RunLines.job_lines_to, lines.RunLines.ShowsJobs, lines.RunLines.begins_as_job, lines.RunLines.text_lines, jobs.JobTimes.AllToldInTime}
use Rattle.htl_model.specs.Lists.{joined}
use Rattle.htl_top.specs.Scripts.{IsWhole}

-- at each instant the j and d lines of the records, and then the lines of values and modes, and nothing else
abbrev pub GoShowsJobLines : Type 0
GoShowsJobLines =
    (t : Tables) (es : List Event) (now : ℕ) → CanBuild t
    → lines_of (built t) es Jobs now
    ≡ joined (printed (built t).tables) (job_lines_at (built t).tables (schedules_of (built t)) es (hyper t) now) ++ lines_text t (value_lines t es now)

-- the j and d lines of the text are those of the records; and of each job of each frame whose window ended by the end they have one d
-- line in its module's round, no later than the end of its window, and j lines in its window for all its ticks
abbrev pub GoTellsJobsInTime : Type 0
GoTellsJobsInTime =
    (t : Tables) (script : List ℕ) (events : List Event) (end : ℕ) → CanBuild t → IsWhole t script events end
    → let lines = job_lines_to (built t).tables (schedules_of (built t)) events end in
    ShowsJobs (built t).tables (text_of (built t) events Jobs end) lines × AllToldInTime (built t).tables (schedules_of (built t)) events end lines

-- a reader who cuts the bytes of the text behind each line feed and takes the lines that begin with `j` or `d` finds, in order, a j line of
-- each slice that a record closes and a d line of each job that one finishes, and no other; the source is any that has tables
abbrev pub GoJobLinesAreFound : Type 0
GoJobLinesAreFound =
    (source : List ℕ) (t : Tables) (events : List Event) (end : ℕ) → IsTablesOf source t
    → filter begins_as_job (text_lines (text_of (built t) events Jobs end)) ≡ map (printed (built t).tables) (job_lines_to (built t).tables (schedules_of (built t)) events end)

-- a reader who cuts the bytes of the text behind each line feed and takes the lines that begin with `j` finds the slices of a legal log: each
-- lies in a window of a job of its invocation, overlaps no other, gives the job no more ticks than it takes, and begins no earlier than the
-- job's predecessors are done; and no job whose window ended by the end has fewer ticks than it takes
abbrev pub GoTellsALegalLog : Type 0
GoTellsALegalLog =
    (source : List ℕ) (t : Tables) (script : List ℕ) (events : List Event) (end : ℕ) → IsTablesOf source t → CanBuild t → IsWhole t script events end
    → (log : List Slice) × (filter begins_as_slice (text_lines (text_of (built t) events Jobs end)) ≡ map (slice_text (built t).tables) log)
    × IsLegal (built t).tables events end log
