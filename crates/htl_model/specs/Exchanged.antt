-- Tables whose functions are exchanged for others that mean the same.
use Rattle.std.specs.Prelude.{◌≡◌, ◌↔◌, ℕ, List, ℤ}
use Rattle.htl_model.specs.{Tables.Tables, Tables.Fun, Tables.function_value, declared.event.Event.Event, Broken.Broken, FormRules.FormRule, FormRules.Site, Meaning.history, Meaning.value_lines, Meaning.run_lines}
use Rattle.htl_model.specs.Lines.{lines_to_text, lines_before_text}

-- the tables with other functions
abbrev pub with_functions : Tables → List Fun → Tables
with_functions t fs = record t { functions = fs }

-- at each place the functions give the same values as those of the tables
abbrev pub MeanTheSame : Tables → List Fun → Type 0
MeanTheSame t fs = (k : ℕ) (args : List ℤ) → function_value t k args ≡ function_value (with_functions t fs) k args

-- tables whose functions mean the same have the same states, lines and texts
pub record SameRuns (t u : Tables) : Type 0 where
  pub states : (sensed : ℕ → ℕ → ℤ) (now : ℕ) → history t sensed now ≡ history u sensed now
  pub lines : (es : List Event) (now : ℕ) → value_lines t es now ≡ value_lines u es now
  pub run : (es : List Event) (end : ℕ) → run_lines t es end ≡ run_lines u es end
  pub text : (es : List Event) (end : ℕ) → lines_to_text t es end ≡ lines_to_text u es end
  pub front : (es : List Event) (at : ℕ) → lines_before_text t es at ≡ lines_before_text u es at

abbrev pub FunctionsDecideRuns : Type 0
FunctionsDecideRuns = (t : Tables) (fs : List Fun) → MeanTheSame t fs → SameRuns t (with_functions t fs)

-- Tables break the same form rules, with the same numbers, whatever their functions are.
abbrev pub FunctionsDecideNoRule : Type 0
FunctionsDecideNoRule = (t : Tables) (fs : List Fun) (r : FormRule) (s : Site) (have need : ℕ) → Broken t r s have need ↔ Broken (with_functions t fs) r s have need
