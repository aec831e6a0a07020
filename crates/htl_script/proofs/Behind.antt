-- A script behind events: what others before its own make of it, and the whole script as what is left behind none.
use Rattle.std.proofs.Common.{◌≡◌, ◌+◌, ℕ, List, [], ◌∷◌, ◌++◌, Option, Some, None, Result, Ok, Err, refl, sym, ap, ◌∙◌, append-nil, append_assoc}
use Rattle.htl_script.proofs.Words.{Event, Tables, ScriptKind, Past, ScriptLine, lines_of, size_of, at_first, past_after_all, past_after, past_of, judged, Script, Whole, Bad, events_of, listed, ended, script_of, script_of_lines, behind, past_after_if, rest_at_end, rest_of_lines, Here, rest_of}
use Rattle.htl_script.specs.declared.fault.ScriptKind.TheVariants as kind

-- ---- events before a script's own

pub behind-nil : (s : Script) → behind [] s ≡ s
behind-nil (Whole es end) = refl
behind-nil (Bad line k es) = refl

pub behind-append : (a b : List Event) (s : Script) → behind a (behind b s) ≡ behind (a ++ b) s
behind-append a b (Whole es end) = ap (λ (xs : List Event). Whole xs end) (sym (append_assoc a b es))
behind-append a b (Bad line k es) = ap (λ (xs : List Event). Bad line k xs) (sym (append_assoc a b es))

pub events_of-behind : (a : List Event) (s : Script) → events_of (behind a s) ≡ a ++ events_of s
events_of-behind a (Whole es end) = refl
events_of-behind a (Bad line k es) = refl

-- ---- the whole script and what is left of it

past_after_all-append : (past : Past) (events : List Event) (e : Option Event) → past_after_all past (events ++ listed e) ≡ past_after_if (past_after_all past events) e
past_after_all-append past [] None = refl
past_after_all-append past [] (Some e) = refl
past_after_all-append past (x ∷ xs) e = past_after_all-append (past_after past x) xs e

ended-behind : (line : ℕ) (events : List Event) → ended line events ≡ behind events (rest_at_end line (past_of events))
ended-behind line events = by_end (past_of events).end
  where
    by_end : (end : Option ℕ) → elim end [ Some instant ↦ Whole events instant | None ↦ Bad line kind.NoEnd events ]
        ≡ behind events (elim end [ Some instant ↦ Whole [] instant | None ↦ Bad line kind.NoEnd [] ])
    by_end (Some instant) = ap (λ (es : List Event). Whole es instant) (sym (append-nil events))
    by_end None = ap (λ (es : List Event). Bad line kind.NoEnd es) (sym (append-nil events))

-- the lines behind some events
script_of_lines-behind : (t : Tables) (line start : ℕ) (events : List Event) (xs : List ScriptLine)
    → script_of_lines t line start events xs ≡ behind events (rest_of_lines t line start (past_of events) xs)
script_of_lines-behind t line start events [] = ended-behind line events
script_of_lines-behind t line start events (x ∷ xs) =
    by_verdict (λ e. script_of_lines-behind t (line + 1) (start + size_of x) (events ++ listed e) xs) (judged t start (past_of events) x)
  where
    by_verdict : ((e : Option Event) → script_of_lines t (line + 1) (start + size_of x) (events ++ listed e) xs
        ≡ behind (events ++ listed e) (rest_of_lines t (line + 1) (start + size_of x) (past_of (events ++ listed e)) xs))
        → (v : Result (Option Event) ScriptKind)
        → elim v [ Ok e ↦ script_of_lines t (line + 1) (start + size_of x) (events ++ listed e) xs | Err k ↦ Bad line k events ]
        ≡ behind events (elim v [ Ok e ↦ behind (listed e) (rest_of_lines t (line + 1) (start + size_of x) (past_after_if (past_of events) e) xs) | Err k ↦ Bad line k [] ])
    by_verdict later (Ok e) =
        later e
        ∙ ap (λ (past : Past). behind (events ++ listed e) (rest_of_lines t (line + 1) (start + size_of x) past xs)) (past_after_all-append at_first events e)
        ∙ sym (behind-append events (listed e) (rest_of_lines t (line + 1) (start + size_of x) (past_after_if (past_of events) e) xs))
    by_verdict later (Err k) = ap (λ (es : List Event). Bad line k es) (sym (append-nil events))

abbrev pub first : Here
first = record { number = 1; start = 0; line = []; past = at_first }

pub script_of-rest : (t : Tables) (bytes : List ℕ) → script_of t bytes ≡ rest_of t first bytes
script_of-rest t bytes = script_of_lines-behind t 1 0 [] (lines_of bytes) ∙ behind-nil (rest_of t first bytes)
