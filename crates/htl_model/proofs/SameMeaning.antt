-- Functions that mean the same give the same values, modes and lines.
use Rattle.std.proofs.Common.{arith, ◌≡◌, ℕ, zero, suc, ◌+◌, ◌*◌, ◌/◌, Bool, true, false, cond, not, ◌&&◌, eqb, List, [], ◌∷◌, ◌++◌, get_or, slice_get, length, map, Option, Some, None, ℤ, pos, refl, ap, ap₂, ◌∙◌}
use mathlib.Core.Path.{fun_ext}
use Rattle.htl_model.proofs.Words.{flat_map, Comm, Module, Inv, Switch, End, Event, Line, ValueLine, ModeLine, Stay, State, Write, is_zero, up_to, list_to, line_text, lines_text, Tables, Fun, mode_period, comm_period, output_function, switch_function, function_value, input_value, out_by, out, end_to, with_start, write_in, write_from, round_start, written_by, written, next_value, next_values, switch_holds, target_from, go_on, go_on_or_begin, next_stay, next_stay_at, runs, stays_to, stays_at, stay_of, first_values, first_state, state_after, next_state, past, History, newest, history, changes, before, state, sense, value_lines, with_functions, MeanTheSame, SameRuns}
use Rattle.htl_model.specs.declared.parts.End.TheVariants as E

-- ---- outputs

input_same : (t : Tables) (fs : List Fun) (seen made : ℕ → ℕ → ℤ) (m s : ℕ) (e : End) → input_value t seen made m s e ≡ input_value (with_functions t fs) seen made m s e
input_same t fs seen made m s (E.Comm c n) = refl
input_same t fs seen made m s (E.Port p) = refl

out_by_same : (t : Tables) (fs : List Fun) → MeanTheSame t fs → (seen made : ℕ → ℕ → ℤ) (s k : ℕ) (o : Option Inv) → out_by t seen made s k o ≡ out_by (with_functions t fs) seen made s k o
out_by_same t fs h seen made s k None = refl
out_by_same t fs h seen made s k (Some x) = grind (arith, input_same)

out_same : (t : Tables) (fs : List Fun) → MeanTheSame t fs → (n : ℕ) (seen : ℕ → ℕ → ℤ) (i s k : ℕ) → out n t seen i s k ≡ out n (with_functions t fs) seen i s k
out_same t fs h zero seen i s k = refl
out_same t fs h (suc n) seen i s k =
    ap (λ (made : ℕ → ℕ → ℤ). out_by t seen made s k (slice_get t.invs i)) (fun_ext (λ w. fun_ext (λ o. out_same t fs h n seen w s o)))
    ∙ out_by_same t fs h seen (λ w o. out n (with_functions t fs) seen w s o) s k (slice_get t.invs i)

-- ---- writes

end_to_same : (t : Tables) (fs : List Fun) (c s now k : ℕ) (ends : List End) → end_to t c s now k ends ≡ end_to (with_functions t fs) c s now k ends
end_to_same t fs c s now k [] = refl
end_to_same t fs c s now k (E.Port p ∷ ends) = end_to_same t fs c s now (suc k) ends
end_to_same t fs c s now k (E.Comm d n ∷ ends) = grind (arith, end_to_same t fs c s now (suc k) ends)

write_in_same : (t : Tables) (fs : List Fun) (c now i : ℕ) (ends : List End) (o : Option ℕ) → write_in t c now i ends o ≡ write_in (with_functions t fs) c now i ends o
write_in_same t fs c now i ends None = refl
write_in_same t fs c now i ends (Some s) = ap (with_start i s) (end_to_same t fs c s now 0 ends)

write_from_same : (t : Tables) (fs : List Fun) (stays : List (Option Stay)) (c now k : ℕ) (xs : List Inv) → write_from t stays c now k xs ≡ write_from (with_functions t fs) stays c now k xs
write_from_same t fs stays c now k [] = refl
write_from_same t fs stays c now k (x ∷ xs) = grind (arith, write_in_same, write_from_same t fs stays c now (suc k) xs)

written_by_same : (t : Tables) (fs : List Fun) → MeanTheSame t fs → (seen : ℕ → ℕ → ℤ) (old : List ℤ) (c : ℕ) (o : Option Write) → written_by t seen old c o ≡ written_by (with_functions t fs) seen old c o
written_by_same t fs h seen old c None = refl
written_by_same t fs h seen old c (Some w) = out_same t fs h (length t.invs) seen w.inv w.start w.output

written_same : (t : Tables) (fs : List Fun) → MeanTheSame t fs → (seen : ℕ → ℕ → ℤ) (stays : List (Option Stay)) (old : List ℤ) (now c : ℕ) → written t seen stays old now c ≡ written (with_functions t fs) seen stays old now c
written_same t fs h seen stays old now c = grind (arith, write_from_same, written_by_same)

-- ---- values

next_value_same : (t : Tables) (fs : List Fun) → MeanTheSame t fs → (sensed seen : ℕ → ℕ → ℤ) (stays : List (Option Stay)) (old : List ℤ) (now c : ℕ) (o : Option Comm)
    → next_value t sensed seen stays old now c o ≡ next_value (with_functions t fs) sensed seen stays old now c o
next_value_same t fs h sensed seen stays old now c None = refl
next_value_same t fs h sensed seen stays old now c (Some x) = grind (arith, written_same)

next_values_same : (t : Tables) (fs : List Fun) → MeanTheSame t fs → (sensed seen : ℕ → ℕ → ℤ) (stays : List (Option Stay)) (old : List ℤ) (now : ℕ)
    → next_values t sensed seen stays old now ≡ next_values (with_functions t fs) sensed seen stays old now
next_values_same t fs h sensed seen stays old now = grind (arith, next_value_same)

-- ---- modes

holds_same : (t : Tables) (fs : List Fun) → MeanTheSame t fs → (values : List ℤ) (k : ℕ) (w : Switch) → switch_holds t values k w ≡ switch_holds (with_functions t fs) values k w
holds_same t fs h values k w = ap (λ (x : ℤ). not (is_zero x)) (h (switch_function t k) (map (λ c. get_or values c (pos 0)) w.reads))

target_from_same : (t : Tables) (fs : List Fun) → MeanTheSame t fs → (values : List ℤ) (m k : ℕ) (ws : List Switch) → target_from t values m k ws ≡ target_from (with_functions t fs) values m k ws
target_from_same t fs h values m k [] = refl
target_from_same t fs h values m k (w ∷ ws) = grind (arith, holds_same, target_from_same t fs h values m (suc k) ws)

go_on_same : (t : Tables) (fs : List Fun) → MeanTheSame t fs → (values : List ℤ) (now : ℕ) (x : Stay) → go_on t values now x ≡ go_on (with_functions t fs) values now x
go_on_same t fs h values now x = grind (arith, target_from_same)

go_on_or_begin_same : (t : Tables) (fs : List Fun) → MeanTheSame t fs → (values : List ℤ) (now : ℕ) (x : Module) (o : Option Stay) → go_on_or_begin t values now x o ≡ go_on_or_begin (with_functions t fs) values now x o
go_on_or_begin_same t fs h values now x None = refl
go_on_or_begin_same t fs h values now x (Some old) = go_on_same t fs h values now old

next_stay_same : (t : Tables) (fs : List Fun) → MeanTheSame t fs → (values : List ℤ) (now : ℕ) (lower : List (Option Stay)) (x : Module) (o : Option Stay)
    → next_stay t values now lower x o ≡ next_stay (with_functions t fs) values now lower x o
next_stay_same t fs h values now lower x o = grind (arith, go_on_or_begin_same)

next_stay_at_same : (t : Tables) (fs : List Fun) → MeanTheSame t fs → (values : List ℤ) (now : ℕ) (lower : List (Option Stay)) (k : ℕ) (o : Option Stay)
    → next_stay_at t values now lower k o ≡ next_stay_at (with_functions t fs) values now lower k o
next_stay_at_same t fs h values now lower k o = grind (arith, next_stay_same)

stays_to_same : (t : Tables) (fs : List Fun) → MeanTheSame t fs → (values : List ℤ) (now : ℕ) (old : List (Option Stay)) (k : ℕ)
    → stays_to t values now old k ≡ stays_to (with_functions t fs) values now old k
stays_to_same t fs h values now old zero = refl
stays_to_same t fs h values now old (suc k) =
    ap (λ (l : List (Option Stay)). l ++ next_stay_at t values now l k (stay_of old k) ∷ []) (stays_to_same t fs h values now old k)
    ∙ ap (λ (y : Option Stay). stays_to (with_functions t fs) values now old k ++ y ∷ [])
    (next_stay_at_same t fs h values now (stays_to (with_functions t fs) values now old k) k (stay_of old k))

-- ---- states

first_state_same : (t : Tables) (fs : List Fun) → MeanTheSame t fs → (sensed : ℕ → ℕ → ℤ) → first_state t sensed ≡ first_state (with_functions t fs) sensed
first_state_same t fs h sensed = grind (arith, stays_to_same)

state_after_same : (t : Tables) (fs : List Fun) → MeanTheSame t fs → (sensed seen : ℕ → ℕ → ℤ) (old : State) (now : ℕ)
    → state_after t sensed seen old now ≡ state_after (with_functions t fs) sensed seen old now
state_after_same t fs h sensed seen old now = grind (arith, next_values_same, stays_to_same)

pub history_same : (t : Tables) (fs : List Fun) → MeanTheSame t fs → (sensed : ℕ → ℕ → ℤ) (n : ℕ) → history t sensed n ≡ history (with_functions t fs) sensed n
history_same t fs h sensed zero = ap (λ (x : State). x ∷ []) (first_state_same t fs h sensed)
history_same t fs h sensed (suc n) = grind (arith, state_after_same, history_same t fs h sensed n)

state_same : (t : Tables) (fs : List Fun) → MeanTheSame t fs → (es : List Event) (now : ℕ) → state t es now ≡ state (with_functions t fs) es now
state_same t fs h es now = ap newest (history_same t fs h (sense t es) now)

before_same : (t : Tables) (fs : List Fun) → MeanTheSame t fs → (es : List Event) (now : ℕ) → before t es now ≡ before (with_functions t fs) es now
before_same t fs h es zero = refl
before_same t fs h es (suc n) = state_same t fs h es n

-- ---- lines

pub value_lines_same : (t : Tables) (fs : List Fun) → MeanTheSame t fs → (es : List Event) (now : ℕ) → value_lines t es now ≡ value_lines (with_functions t fs) es now
value_lines_same t fs h es now = ap₂ (changes t now) (before_same t fs h es now) (state_same t fs h es now)

up_to_lines_same : (t : Tables) (fs : List Fun) → MeanTheSame t fs → (es : List Event) (n : ℕ) → up_to (value_lines t es) n ≡ up_to (value_lines (with_functions t fs) es) n
up_to_lines_same t fs h es n = ap (λ (f : ℕ → List Line). up_to f n) (fun_ext (value_lines_same t fs h es))

line_text_same : (t : Tables) (fs : List Fun) (l : Line) → line_text t l ≡ line_text (with_functions t fs) l
line_text_same t fs (ValueLine at c x) = refl
line_text_same t fs (ModeLine at k (Some m)) = refl
line_text_same t fs (ModeLine at k None) = refl

lines_text_same : (t : Tables) (fs : List Fun) (ls : List Line) → lines_text t ls ≡ lines_text (with_functions t fs) ls
lines_text_same t fs ls = ap (λ (f : Line → List ℕ). flat_map f ls) (fun_ext (line_text_same t fs))

text_same : (t : Tables) (fs : List Fun) → MeanTheSame t fs → (es : List Event) (n : ℕ) → lines_text t (up_to (value_lines t es) n) ≡ lines_text (with_functions t fs) (up_to (value_lines (with_functions t fs) es) n)
text_same t fs h es n = grind (arith, up_to_lines_same, lines_text_same)

-- functions that mean the same decide the same runs
pub same_runs : (t : Tables) (fs : List Fun) → MeanTheSame t fs → SameRuns t (with_functions t fs)
same_runs t fs h = grind (arith, history_same, value_lines_same, up_to_lines_same, text_same)
