-- What a reader of a plan's input has read, and what it answers.
use Rattle.std.specs.Prelude.{◌≡◌, ◌≤◌, ◌==◌, ℕ, false, List, ◌++◌, length, take, Option, Ok, Err}
use Rattle.std.specs.declared.result.Result.{Result}
use Rattle.htl_edge.specs.Causes.{Rose}
use Rattle.htl_model.specs.Tables.{Tables}
use Rattle.htl_script.specs.declared.fault.ScriptKind.TheVariants as kind
use Rattle.htl_script.specs.{declared.fault.ScriptStop.ScriptStop, LineReading.LinesAhead, LineReading.text_of, LineReading.behind_line, Lines.lines_of}
use Rattle.htl_script.specs.declared.fault.ScriptStop.TheVariants as stop
use Rattle.htl_plan.specs.SelectionInput.{Input, Whole, Bad, judged_text, listed, input_of_lines}

-- what is left behind a reader of lines gives, where these bytes follow, with these entries
abbrev pub rest_of : Tables → LinesAhead → List (Option ℕ) → List ℕ → Input
rest_of t a entries later = input_of_lines t a.place.number a.place.start entries (lines_of (text_of a later))

-- The line that was read has an entry or none, the reader is behind it, and so many of the modes are then entries; or it has this fault.
abbrev pub TakesLine : Tables → LinesAhead → List (Option ℕ) → ℕ → LinesAhead → List (Option ℕ) → Result ℕ ScriptStop → Type 0
TakesLine t old modes done new entries (Ok n) =
    (e : Option (Option ℕ)) × (judged_text t (take done modes) old.place.line ≡ Ok e) × (new ≡ behind_line old) × (take n entries ≡ take done modes ++ listed e)
TakesLine t old modes done new entries (Err (stop.Script fault)) = (judged_text t (take done modes) old.place.line ≡ Err fault.kind) × (fault.line ≡ old.place.number)
TakesLine t old modes done new entries (Err stop.Read) = ⊥

-- What is answered behind the last line, where there are so many entries.
abbrev pub AnswersEnd : {T : Type 0} → Tables → LinesAhead → ℕ → Result T ScriptStop → Type 0
AnswersEnd t a done (Ok x) = done ≡ length t.modules
AnswersEnd t a done (Err (stop.Script fault)) = ((done == length t.modules) ≡ false) × (fault ≡ record { line = a.place.number; kind = kind.NoEnd })
AnswersEnd t a done (Err stop.Read) = ⊥

-- what an input is, by the answer
abbrev pub IsAnswer : {T : Type 0} → Input → List (Option ℕ) → Result T ScriptStop → Type 0
IsAnswer input modes (Ok done) = input ≡ Whole modes
IsAnswer input modes (Err (stop.Script fault)) = input ≡ Bad fault.line fault.kind
IsAnswer input modes (Err stop.Read) = Unit {0}

-- A count of faults doesn't fall. It rose where the reader stopped at a fault of its source, and else stands where it stood.
pub record HasReadCause {T : Type 0} (before now : ℕ) (result : Result T ScriptStop) : Type 0 where
  pub later : before ≤ now
  pub kept : (result ≡ Err stop.Read → ⊥) → now ≡ before
  pub read : result ≡ Err stop.Read → Rose before now
