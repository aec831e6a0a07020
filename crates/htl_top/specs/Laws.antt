-- What the values and lines of a run depend on, and what `go` shows.
use Rattle.std.specs.Prelude.{◌≡◌, ◌≤◌, ◌<◌, ℕ, Bool, cond, nat_le, nat_lt, List, [], ◌∷◌, ◌++◌, length}
use Rattle.htl_top.specs.{Common.built, Common.CanBuild, Common.Jobs, Common.lines_of, Common.schedules_of, Common.Event, Common.frame_of, Common.hyper, Common.Tables, Scripts.IsWhole}
use Rattle.htl_runs.specs.lines.Lines.{old_lines}
use Rattle.htl_model.specs.declared.event.Event.TheVariants as event
use Rattle.htl_model.specs.{Lines.lines_before_text, Lines.lines_text, Meaning.run_lines, Meaning.sense, Meaning.val, Meaning.value_lines, Selections.root_modules}
use Rattle.htl_refine.specs.{FrameRuns.frame_at, ServedJobs.AllServed}

-- two scripts with equal sensor values up to `end` give equal lines up to `end`
abbrev pub SensorsDecideLines : Type 0
SensorsDecideLines =
    (t : Tables) (es fs : List Event) (end : ℕ) → ((c u : ℕ) → u ≤ end → sense t es c u ≡ sense t fs c u) → run_lines t es end ≡ run_lines t fs end

-- the events whose reading keeps the rule, where that of the first is `reading`
abbrev pub read_where : (ℕ → Bool) → ℕ → List Event → List Event
read_where keeps reading [] = []
read_where keeps reading (event.At t ∷ es) = let later = read_where keeps t es in cond (keeps t) (event.At t ∷ later) later
read_where keeps reading (event.Sense c x ∷ es) = let later = read_where keeps reading es in cond (keeps reading) (event.Sense c x ∷ later) later
read_where keeps reading (event.Took i n ∷ es) = let later = read_where keeps reading es in cond (keeps reading) (event.Took i n ∷ later) later
read_where keeps reading (event.End t ∷ es) = let later = read_where keeps reading es in cond (keeps reading) (event.End t ∷ later) later

-- the events that were read at an instant or before
abbrev pub read_by : ℕ → List Event → List Event
read_by now es = read_where (λ reading. nat_le reading now) 0 es

-- the events that were read before an instant
abbrev pub read_before : ℕ → List Event → List Event
read_before at es = read_where (λ reading. nat_lt reading at) 0 es

-- two scripts with the same events up to an instant give each communicator the same value then
abbrev pub EarlierReadingsDecideValues : Type 0
EarlierReadingsDecideValues = (t : Tables) (es fs : List Event) (now : ℕ) → read_by now es ≡ read_by now fs → (c : ℕ) → val t es c now ≡ val t fs c now

-- two scripts with the same events before an instant give the same lines of values and modes, as text, of the instants before it
abbrev pub EarlierReadingsDecideTexts : Type 0
EarlierReadingsDecideTexts =
    (t : Tables) (es fs : List Event) (at : ℕ) → read_before at es ≡ read_before at fs → lines_before_text t es at ≡ lines_before_text t fs at

-- ---- what `go` shows of a source

-- at each instant the lines of jobs, and then those of values and modes, by the tables of the source and the sensors alone
abbrev pub GoShowsTheMeaning : Type 0
GoShowsTheMeaning =
    (t : Tables) (es : List Event) (now : ℕ) → CanBuild t
    → lines_of (built t) es Jobs now ≡ old_lines (built t).tables (schedules_of (built t)) es Jobs (hyper t) now ++ lines_text t (value_lines t es now)

-- each job of each frame whose window ended by the end is done once, within its window, in slices of its own that follow its
-- predecessors; without modules there are no frames
abbrev pub GoKeepsDeadlines : Type 0
GoKeepsDeadlines =
    (t : Tables) (script : List ℕ) (events : List Event) (end : ℕ) → CanBuild t → IsWhole t script events end → 0 < length (root_modules t)
    → AllServed (frame_at (built t).tables (schedules_of (built t)) events) (frame_of t) end
