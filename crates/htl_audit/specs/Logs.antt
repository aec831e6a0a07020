-- The lines of a job log, and the slices that they give.
use Rattle.std.specs.Prelude.{◌≡◌, ℕ, suc, Bool, List, [], ◌∷◌, ◌++◌, Option, Some, None, length, nat_lt, ◌==◌, codes, if◌then◌else◌, Ok, Err}
use Rattle.std.specs.{declared.result.Result.Result, Str.bytes_eq}
use Rattle.htl_base.specs.declared.limits.TheConstants.{MAX_INSTANT}
use Rattle.htl_model.specs.Tables.{Tables}
use Rattle.htl_script.specs.{Lines.ScriptLine, Lines.lines_of, Numbers.number_of, Statements.fields_of, Judging.invocation_of}
use Rattle.htl_audit.specs.{declared.slice.Slice.Slice, declared.slice.LogKind.LogKind}
use Rattle.htl_audit.specs.declared.slice.LogKind.TheVariants as kind

-- a log is read, with its slices; or one of its lines is the first with a form or a name that is refused
pub data Log : Type 0 where
  Read : (slices : List Slice) → Log
  Refused : (line : ℕ) (kind : LogKind) → Log

-- a number of at most 1,000,000,000
abbrev pub instant_of : List ℕ → Option ℕ
instant_of field = elim (number_of field) [ Some n ↦ if nat_lt MAX_INSTANT n then None else Some n | None ↦ None ]

abbrev pub slice_of : ℕ → ℕ → Option ℕ → Result Slice LogKind
slice_of from to (Some i) = Ok (record { from = from; to = to; inv = i })
slice_of from to None = Err kind.Unknown

-- the slice of two instants and a name, which isn't empty
abbrev pub slice_between : Tables → Option ℕ → Option ℕ → List ℕ → Result Slice LogKind
slice_between t (Some from) (Some to) name = if length name == 0 then Err kind.Form else slice_of from to (invocation_of t name)
slice_between t None to name = Err kind.Form
slice_between t (Some from) None name = Err kind.Form

-- `j A B NAME`
abbrev pub line_of_fields : Tables → List (List ℕ) → Result Slice LogKind
line_of_fields t (word ∷ from ∷ to ∷ name ∷ []) = if bytes_eq word (codes "j") then slice_between t (instant_of from) (instant_of to) name else Err kind.Form
line_of_fields t _ = Err kind.Form

-- the slice of a line, or the first rule that it breaks
abbrev pub line_of : Tables → List ℕ → Result Slice LogKind
line_of t text = line_of_fields t (fields_of text)

abbrev pub in_front : Slice → Log → Log
in_front x (Read xs) = Read (x ∷ xs)
in_front x (Refused n k) = Refused n k

-- the lines from number n on
abbrev pub log_of_lines : Tables → ℕ → List ScriptLine → Log
log_of_lines t n [] = Read []
log_of_lines t n (x ∷ xs) = elim (line_of t x.text) [ Ok s ↦ in_front s (log_of_lines t (suc n) xs) | Err k ↦ Refused n k ]

-- what a log says of a run of these tables
abbrev pub log_of : Tables → List ℕ → Log
log_of t bytes = log_of_lines t 1 (lines_of bytes)

-- ---- reading

-- slices in front of what the lines behind them give
abbrev pub slices_in_front : List Slice → Log → Log
slices_in_front xs (Read ys) = Read (xs ++ ys)
slices_in_front xs (Refused n k) = Refused n k

-- the first line of what is left, and what follows it
pub record IsFirstLine (bytes text rest : List ℕ) : Type 0 where
  pub fed : Bool
  pub lines : lines_of bytes ≡ record { text = text; fed = fed } ∷ lines_of rest
