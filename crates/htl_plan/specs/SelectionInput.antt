-- The input of a plan: one line for each module, in order, which says the mode in which it is.
use Rattle.std.specs.Prelude.{ℕ, ◌+◌, Bool, not, ◌&&◌, List, [], ◌∷◌, ◌++◌, length, Option, Some, None, is_some, ◌==◌, codes, if◌then◌else◌, Ok, Err}
use Rattle.std.specs.{declared.result.Result.Result, List.position_from, Option.option_map, Str.bytes_eq}
use Rattle.htl_model.specs.{declared.parts.Module.Module, Tables.Tables, declared.parts.Mode.Mode, Ranges.parent_of, Selected.is_active}
use Rattle.htl_script.specs.{declared.fault.ScriptKind.ScriptKind, Lines.ScriptLine, Lines.lines_of, Lines.size_of, Lines.is_past_limit, Lines.is_long, Lines.is_passed_over, Statements.fields_of}
use Rattle.htl_script.specs.declared.fault.ScriptKind.TheVariants as kind

-- The input is whole, with an entry for each module; or one of its lines is the first with a fault.
pub data Input : Type 0 where
  Whole : (modes : List (Option ℕ)) → Input
  Bad : (line : ℕ) (kind : ScriptKind) → Input

-- ---- a line

-- `mode MODULE MODE`, where neither name is empty
abbrev pub named_mode : List ℕ → List ℕ → List ℕ → Option (List ℕ × List ℕ)
named_mode word unit mode =
    if length unit == 0 then None
    else if length mode == 0 then None
    else if bytes_eq word (codes "mode") then Some (unit, mode)
    else None

abbrev pub named_by : List (List ℕ) → Option (List ℕ × List ℕ)
named_by (word ∷ unit ∷ mode ∷ []) = named_mode word unit mode
named_by _ = None

-- the module with this name
abbrev pub module_is_named : List ℕ → Module → Bool
module_is_named name x = bytes_eq x.name name

abbrev pub unit_of : Tables → List ℕ → Option ℕ
unit_of t name = position_from (module_is_named name) 0 t.modules

-- the mode of a module with this name
abbrev pub is_mode : ℕ → List ℕ → Mode → Bool
is_mode u name x = (x.«module» == u) && bytes_eq x.name name

abbrev pub mode_of : Tables → ℕ → List ℕ → Option ℕ
mode_of t u name = position_from (is_mode u name) 0 t.modes

abbrev pub some_mode : ℕ → Option ℕ
some_mode m = Some m

-- a mode of the module, or `-` for none
abbrev pub mode_told : Tables → ℕ → List ℕ → Option (Option ℕ)
mode_told t u mode = if bytes_eq mode (codes "-") then Some None else option_map some_mode (mode_of t u mode)

-- the module is the next one, and has a mode exactly where it is active
abbrev pub is_next : Tables → List (Option ℕ) → ℕ → Option ℕ → Bool
is_next t modes u e = (u == length modes) && (if is_some e then is_active t modes (parent_of t u) else not (is_active t modes (parent_of t u)))

abbrev pub entered_as : Tables → List (Option ℕ) → ℕ → Option (Option ℕ) → Result (Option (Option ℕ)) ScriptKind
entered_as t modes u None = Err kind.Unknown
entered_as t modes u (Some e) = if is_next t modes u e then Ok (Some e) else Err kind.Order

abbrev pub entered_in : Tables → List (Option ℕ) → Option ℕ → List ℕ → Result (Option (Option ℕ)) ScriptKind
entered_in t modes None mode = Err kind.Unknown
entered_in t modes (Some u) mode = entered_as t modes u (mode_told t u mode)

abbrev pub entered : Tables → List (Option ℕ) → Option (List ℕ × List ℕ) → Result (Option (Option ℕ)) ScriptKind
entered t modes None = Err kind.Form
entered t modes (Some p) = entered_in t modes (unit_of t p.0) p.1

-- a line that isn't too long, behind these entries: no entry where it is passed over
abbrev pub judged_text : Tables → List (Option ℕ) → List ℕ → Result (Option (Option ℕ)) ScriptKind
judged_text t modes text =
    if is_passed_over text then Ok None
    else if length modes == length t.modules then Err kind.After
    else entered t modes (named_by (fields_of text))

-- a line that begins behind `start` bytes: its entry, nothing where it is passed over, or the first rule that it breaks
abbrev pub judged : Tables → ℕ → List (Option ℕ) → ScriptLine → Result (Option (Option ℕ)) ScriptKind
judged t start modes line =
    if is_past_limit start line then Err kind.Size
    else if is_long line then Err kind.Long
    else judged_text t modes line.text

-- ---- all lines

abbrev pub listed : Option (Option ℕ) → List (Option ℕ)
listed None = []
listed (Some e) = e ∷ []

-- the end of the input, behind the lines below number `line`
abbrev pub ended : Tables → ℕ → List (Option ℕ) → Input
ended t line modes = if length modes == length t.modules then Whole modes else Bad line kind.NoEnd

-- the lines from number `line` on, which begin behind `start` bytes, each behind the entries before it
abbrev pub input_of_lines : Tables → ℕ → ℕ → List (Option ℕ) → List ScriptLine → Input
input_of_lines t line start modes [] = ended t line modes
input_of_lines t line start modes (x ∷ xs) =
    elim (judged t start modes x) [
      | Ok e ↦ input_of_lines t (line + 1) (start + size_of x) (modes ++ listed e) xs
      | Err k ↦ Bad line k
    ]

abbrev pub input_of : Tables → List ℕ → Input
input_of t bytes = input_of_lines t 1 0 [] (lines_of bytes)
