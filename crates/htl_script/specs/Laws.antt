-- What scripts say.
use Rattle.std.specs.Prelude.{◌≡◌, ℕ, List, None}
use Rattle.htl_model.specs.{Exchanged.with_functions, Tables.Tables, Tables.Fun, declared.event.Event.Event}
use Rattle.htl_script.specs.{Events.AreEvents, Events.EndWith, Script.Whole, Script.script_of}

-- a script says the same of tables, whatever functions they have
abbrev pub FunctionsDecideNoScript : Type 0
FunctionsDecideNoScript = (t : Tables) (fs : List Fun) (bytes : List ℕ) → script_of t bytes ≡ script_of (with_functions t fs) bytes

-- the events of a whole script are well formed, and the last one ends the run at its end
abbrev pub WholeScriptsEnd : Type 0
WholeScriptsEnd = (t : Tables) (bytes : List ℕ) (events : List Event) (end : ℕ) → script_of t bytes ≡ Whole events end → AreEvents t None events × EndWith events end
