-- The lines of values and modes that are others than before.
use Rattle.std.specs.Prelude.{ℕ, ◌||◌, cond, not, eqb, List, [], ◌∷◌, ◌++◌, length, get_or, Option, ℤ, pos}
use Rattle.htl_model.specs.{Functions.same, Meaning.same_mode, declared.line.Line.TheVariants.ValueLine, declared.line.Line.TheVariants.ModeLine}
use Rattle.htl_runs.specs.Common.{up_to, lines_text, Tables, Line, list_at, Shown, shows_values}

abbrev pub value_change : ℕ → ℕ → ℤ → ℤ → List Line
value_change now c old new = cond (eqb now 0 || not (same old new)) (ValueLine now c new ∷ []) []

abbrev pub mode_change : ℕ → ℕ → Option ℕ → Option ℕ → List Line
mode_change now k old new = cond (same_mode old new) [] (ModeLine now k new ∷ [])

abbrev pub value_changes : ℕ → List ℤ → List ℤ → ℕ → List Line
value_changes now old new c = value_change now c (get_or old c (pos 0)) (get_or new c (pos 0))

abbrev pub mode_changes : ℕ → List (Option ℕ) → List (Option ℕ) → ℕ → List Line
mode_changes now was is k = mode_change now k (list_at was k) (list_at is k)

abbrev pub all_changes : Tables → ℕ → List ℤ → List ℤ → List (Option ℕ) → List (Option ℕ) → List Line
all_changes t now old new was is = up_to (value_changes now old new) (length t.comms) ++ up_to (mode_changes now was is) (length t.modules)

abbrev pub change_lines : Tables → Shown → ℕ → List ℤ → List ℤ → List (Option ℕ) → List (Option ℕ) → List ℕ
change_lines t show now old new was is = cond (shows_values show) (lines_text t (all_changes t now old new was is)) []
