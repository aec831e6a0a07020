-- The events of a script.
use Rattle.std.specs.Prelude.{ℕ, ◌+◌, List, [], ◌∷◌, ◌++◌, Option, Some, None, Ok, Err}
use Rattle.htl_model.specs.{declared.event.Event.Event, Tables.Tables}
use Rattle.htl_script.specs.{declared.fault.ScriptKind.ScriptKind, Lines.ScriptLine, Lines.lines_of, Lines.size_of, Judging.past_of, Judging.judged}
use Rattle.htl_script.specs.declared.fault.ScriptKind.TheVariants as kind

-- A script is whole, with its events and the instant with which the run ends; or one of its lines is the first
-- with a fault, with the events before it.
pub data Script : Type 0 where
  Whole : (events : List Event) (end : ℕ) → Script
  Bad : (line : ℕ) (kind : ScriptKind) (events : List Event) → Script

abbrev pub events_of : Script → List Event
events_of (Whole events end) = events
events_of (Bad line kind events) = events

abbrev pub listed : Option Event → List Event
listed None = []
listed (Some e) = e ∷ []

-- the script at its end, behind the lines below number `line`
abbrev pub ended : ℕ → List Event → Script
ended line events = elim ((past_of events).end) [ Some instant ↦ Whole events instant | None ↦ Bad line kind.NoEnd events ]

-- the lines from number `line` on, which begin behind `start` bytes, each against the events before it
abbrev pub script_of_lines : Tables → ℕ → ℕ → List Event → List ScriptLine → Script
script_of_lines t line start events [] = ended line events
script_of_lines t line start events (x ∷ xs) =
    elim (judged t start (past_of events) x) [
      | Ok e ↦ script_of_lines t (line + 1) (start + size_of x) (events ++ listed e) xs
      | Err k ↦ Bad line k events
    ]

-- what a script says of a run of these tables
abbrev pub script_of : Tables → List ℕ → Script
script_of t bytes = script_of_lines t 1 0 [] (lines_of bytes)
