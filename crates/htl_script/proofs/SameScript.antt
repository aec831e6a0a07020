-- A script says the same of tables, whatever functions they have.
use Rattle.std.proofs.Common.{◌≡◌, ℕ, ◌+◌, Bool, List, [], ◌∷◌, ◌++◌, Option, Some, None, Ok, Err, refl, ap, ap₂, ◌∙◌}
use Rattle.std.specs.Prelude.{is_some, if◌then◌else◌}
use Rattle.std.specs.declared.result.Result.{Result}
use Rattle.htl_script.proofs.Words.{with_functions, Tables, Fun, Event, FunctionsDecideNoScript, is_unknown, is_out_of_range, is_out_of_order, overrun_of, fault_of, event_of, event_unless, judged_statement, judged_text, judged, as_some, past_of, ScriptLine, lines_of, size_of, is_past_limit, is_long, is_passed_over, Script, Bad, listed, script_of_lines, Statement, At, statement_of, ScriptKind, Past}
use Rattle.htl_script.specs.declared.fault.ScriptKind.TheVariants as kind

module _ (t : Tables) (fs : List Fun) where
  unknown_same : (s : Statement) → is_unknown t s ≡ is_unknown (with_functions t fs) s
  unknown_same (At instant) = refl
  unknown_same _ = refl

  range_same : (s : Statement) → is_out_of_range t s ≡ is_out_of_range (with_functions t fs) s
  range_same (At instant) = refl
  range_same _ = refl

  overrun_same : (s : Statement) → overrun_of t s ≡ overrun_of (with_functions t fs) s
  overrun_same (At instant) = refl
  overrun_same _ = refl

  event_same : (s : Statement) → event_of t s ≡ event_of (with_functions t fs) s
  event_same (At instant) = refl
  event_same _ = refl

  fault_same : (past : Past) (s : Statement) → fault_of t past s ≡ fault_of (with_functions t fs) past s
  fault_same past s =
      let order : Option ScriptKind → Option ScriptKind = λ o. if is_out_of_order past s then Some kind.Order else o in
      ap (λ (b : Bool). if b then Some kind.Unknown else if is_out_of_range t s then Some kind.Range else order (overrun_of t s)) (unknown_same s)
      ∙ ap (λ (b : Bool). if is_unknown (with_functions t fs) s then Some kind.Unknown else if b then Some kind.Range else order (overrun_of t s)) (range_same s)
      ∙ ap (λ (o : Option ScriptKind). if is_unknown (with_functions t fs) s then Some kind.Unknown else if is_out_of_range (with_functions t fs) s then Some kind.Range else order o) (overrun_same s)

  statement_same : (past : Past) (o : Option Statement) → judged_statement t past o ≡ judged_statement (with_functions t fs) past o
  statement_same past None = refl
  statement_same past (Some s) = ap₂ event_unless (fault_same past s) (event_same s)

  text_same : (past : Past) (text : List ℕ) → judged_text t past text ≡ judged_text (with_functions t fs) past text
  text_same past text =
      ap (λ (r : Result Event ScriptKind). if is_passed_over text then Ok None else if is_some past.end then Err kind.After else as_some r) (statement_same past (statement_of text))

  line_same : (start : ℕ) (past : Past) (line : ScriptLine) → judged t start past line ≡ judged (with_functions t fs) start past line
  line_same start past line =
      ap (λ (r : Result (Option Event) ScriptKind). if is_past_limit start line then Err kind.Size else if is_long line then Err kind.Long else r) (text_same past line.text)

  lines_same : (line start : ℕ) (events : List Event) (xs : List ScriptLine) → script_of_lines t line start events xs ≡ script_of_lines (with_functions t fs) line start events xs
  lines_same line start events [] = refl
  lines_same line start events (x ∷ xs) =
      ap (λ (r : Result (Option Event) ScriptKind). elim r as (λ _. Script) [ Ok e ↦ script_of_lines t (line + 1) (start + size_of x) (events ++ listed e) xs | Err k ↦ Bad line k events ])
      (line_same start (past_of events) x)
      ∙ by (judged (with_functions t fs) start (past_of events) x) (λ e. lines_same (line + 1) (start + size_of x) (events ++ listed e) xs)
    where
      by : (r : Result (Option Event) ScriptKind)
          → ((e : Option Event) → script_of_lines t (line + 1) (start + size_of x) (events ++ listed e) xs ≡ script_of_lines (with_functions t fs) (line + 1) (start + size_of x) (events ++ listed e) xs)
          → elim r as (λ _. Script) [ Ok e ↦ script_of_lines t (line + 1) (start + size_of x) (events ++ listed e) xs | Err k ↦ Bad line k events ]
          ≡ elim r as (λ _. Script) [ Ok e ↦ script_of_lines (with_functions t fs) (line + 1) (start + size_of x) (events ++ listed e) xs | Err k ↦ Bad line k events ]
      by (Ok e) rest = rest e
      by (Err k) rest = refl

pub script_same : FunctionsDecideNoScript
script_same t fs bytes = lines_same t fs 1 0 [] (lines_of bytes)
