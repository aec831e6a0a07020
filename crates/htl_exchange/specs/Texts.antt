-- The text of one line of an instant.
use Rattle.std.specs.Prelude.{ℕ, List}
use Rattle.htl_model.specs.{declared.event.Event.Event, Lines.lines_text, Meaning.before, Meaning.mode_line, Meaning.state, Meaning.value_line, Tables.Tables}

-- what the line of a communicator is at an instant; empty where it has none
abbrev pub value_text : Tables → List Event → ℕ → ℕ → List ℕ
value_text t es now c = lines_text t (value_line now (before t es now) (state t es now) c)

-- what the line of a module is at an instant; empty where it has none
abbrev pub mode_text : Tables → List Event → ℕ → ℕ → List ℕ
mode_text t es now x = lines_text t (mode_line now (before t es now) (state t es now) x)
