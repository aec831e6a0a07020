-- The lines of values, modes and totals as text.
use Rattle.std.specs.Prelude.{ℕ, List, [], ◌++◌, slice_get, Option, Some, None, codes, decimal}
use Rattle.std.specs.{Fmt.signed_decimal, List.flat_map}
use Rattle.htl_model.specs.{declared.event.Event.Event, declared.line.Line.Line, declared.line.Line.TheVariants.ValueLine, declared.line.Line.TheVariants.ModeLine, Lists.up_to, Meaning.run_lines, Meaning.value_lines, Tables.Tables}

abbrev pub comm_name : Tables → ℕ → List ℕ
comm_name t c = elim (slice_get t.comms c) [ Some x ↦ x.name | None ↦ [] ]

abbrev pub mode_name : Tables → ℕ → List ℕ
mode_name t m = elim (slice_get t.modes m) [ Some x ↦ x.name | None ↦ [] ]

abbrev pub module_name : Tables → ℕ → List ℕ
module_name t k = elim (slice_get t.modules k) [ Some x ↦ x.name | None ↦ [] ]

-- a mode's name, or `-` where the module is inactive
abbrev pub shown_mode : Tables → Option ℕ → List ℕ
shown_mode t (Some m) = mode_name t m
shown_mode t None = codes "-"

-- `v T COMMUNICATOR X` and `m T MODULE MODE`
abbrev pub line_text : Tables → Line → List ℕ
line_text t (ValueLine at c x) = codes "v " ++ decimal at ++ codes " " ++ comm_name t c ++ codes " " ++ signed_decimal x ++ codes "\n"
line_text t (ModeLine at k m) = codes "m " ++ decimal at ++ codes " " ++ module_name t k ++ codes " " ++ shown_mode t m ++ codes "\n"

abbrev pub lines_text : Tables → List Line → List ℕ
lines_text t ls = flat_map (line_text t) ls

-- `end T jobs N e K s L`: the jobs that finished, and the E and S instructions that were done, up to T
abbrev pub totals_line : ℕ → ℕ → ℕ → ℕ → List ℕ
totals_line at jobs e s =
    codes "end " ++ decimal at ++ codes " jobs " ++ decimal jobs ++ codes " e " ++ decimal e ++ codes " s " ++ decimal s ++ codes "\n"

-- the lines of the instants 0 to `end`
abbrev pub lines_to_text : Tables → List Event → ℕ → List ℕ
lines_to_text t es end = lines_text t (run_lines t es end)

-- the lines of the instants before `at`
abbrev pub lines_before_text : Tables → List Event → ℕ → List ℕ
lines_before_text t es at = lines_text t (up_to (value_lines t es) at)
