-- The laws of a run, over definitions alone.
use Rattle.std.specs.Prelude.{◌≡◌, ◌<◌, ℕ, true, List, ◌++◌, length, map}
use Rattle.htl_runs.specs.Common.{filter, Event, lines_text, up_to, sense, value_lines, frame_of, root_modules, Object, IsAccepted, AreTookWithin, Shown, shows_jobs, frame_at}
use Rattle.htl_console.specs.declared.shown.Shown.TheVariants.{Values}
use Rattle.htl_runs.specs.{events.ToldSoFar.AreReadFrom, events.ToldSoFar.reading_of, events.ToldSoFar.IsLoaded, jobs.JobTimes.AllToldInTime, lines.Programs.schedules_of, lines.Programs.before_of, lines.Programs.text_of}
use Rattle.htl_refine.specs.ServedJobs.{AllServed}
use Rattle.htl_runs.specs.lines.RunLines.{printed, job_lines_to, ShowsJobs, begins_as_job, text_lines, HasNames}

-- of an accepted object the tables keep the rules, and its lists are accepted for all paths
abbrev pub AcceptedIsLoaded : Type 0
AcceptedIsLoaded = (o : Object) → IsAccepted o → IsLoaded o.tables (schedules_of o)

-- of an accepted object, whatever the sensors show and however long the jobs take within their worst cases: each job of each frame
-- whose window ended by the end of the run is done once, within its window, in slices of its own that follow its predecessors;
-- without modules there are no frames
abbrev pub EveryJobInTime : Type 0
EveryJobInTime =
    (o : Object) (es : List Event) (end : ℕ) → IsAccepted o → AreTookWithin o.tables es → 0 < length (root_modules o.tables)
    → AllServed (frame_at o.tables (schedules_of o) es) (frame_of o.tables) end

-- where values and modes alone are shown, the text is that of the meaning: it knows no code, no schedule and no length
abbrev pub ValuesAreTheMeaning : Type 0
ValuesAreTheMeaning = (o : Object) (es : List Event) (now : ℕ) → before_of o es Values now ≡ up_to (λ n. lines_text o.tables (value_lines o.tables es n)) now

-- so it is the same for all objects of the same tables, and for all events under which the sensors show the same before then
abbrev pub SensorsDecide : Type 0
SensorsDecide =
    (o p : Object) (es fs : List Event) (now : ℕ) → o.tables ≡ p.tables → ((c u : ℕ) → u < now → sense o.tables es c u ≡ sense o.tables fs c u)
    → before_of o es Values now ≡ before_of p fs Values now

-- the text before an instant depends on nothing that is read then or later
abbrev pub LaterEventsLeaveText : Type 0
LaterEventsLeaveText =
    (o : Object) (es later : List Event) (show : Shown) (now : ℕ) → IsAccepted o → AreTookWithin o.tables (es ++ later) → AreReadFrom now (reading_of 0 es) later
    → before_of o (es ++ later) show now ≡ before_of o es show now

-- where jobs are shown, the text of a run is printed line by line, and its j and d lines are those of the records: in order, a j line of
-- each slice that a record closes, and a d line of each job that one finishes
abbrev pub JobLinesAreRecords : Type 0
JobLinesAreRecords =
    (o : Object) (es : List Event) (show : Shown) (end : ℕ) → shows_jobs show ≡ true
    → ShowsJobs o.tables (text_of o es show end) (job_lines_to o.tables (schedules_of o) es end)

-- so a reader finds these and no others who cuts the text behind each line feed and takes the lines that begin with `j` or `d`
abbrev pub JobLinesAreFound : Type 0
JobLinesAreFound =
    (o : Object) (es : List Event) (show : Shown) (end : ℕ) → HasNames o.tables → shows_jobs show ≡ true
    → filter begins_as_job (text_lines (text_of o es show end)) ≡ map (printed o.tables) (job_lines_to o.tables (schedules_of o) es end)

-- of an accepted object, whatever the sensors show and however long the jobs take within their worst cases: of each job of each frame
-- whose window ended by the end of the run there is one d line in its module's round, about the instant at which it finishes, no later
-- than the end of its window, and its j lines in the round lie in the window and have as many ticks as it takes
abbrev pub EveryJobToldInTime : Type 0
EveryJobToldInTime =
    (o : Object) (es : List Event) (end : ℕ) → IsAccepted o → AreTookWithin o.tables es
    → AllToldInTime o.tables (schedules_of o) es end (job_lines_to o.tables (schedules_of o) es end)
