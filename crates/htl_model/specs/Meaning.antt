-- Logical execution time: the modes and the values at each instant, by the tables and the sensors alone.
use Rattle.std.specs.Prelude.{ℕ, zero, suc, ◌+◌, ◌-◌, ◌*◌, ◌/◌, Bool, true, false, cond, not, ◌&&◌, ◌||◌, eqb, ltb, leb, List, [], ◌∷◌, ◌++◌, length, get_or, slice_get, map, Option, Some, None, ℤ, pos}
use Rattle.htl_model.specs.{declared.parts.Comm.Comm, declared.parts.Module.Module, declared.parts.Inv.Inv, declared.parts.Switch.Switch, declared.parts.End.End, declared.state.Stay.Stay, declared.state.State.State, declared.line.Line.Line}
use Rattle.htl_model.specs.declared.parts.End.TheVariants as E
use Rattle.htl_model.specs.{declared.state.Write.Write, declared.event.Event.Event, declared.line.Line.TheVariants.ValueLine, declared.line.Line.TheVariants.ModeLine, Functions.is_zero, Functions.same, Lists.up_to, Lists.list_to}
use Rattle.htl_model.specs.declared.event.Event.TheVariants as V
use Rattle.htl_model.specs.Tables.{Tables, mode_period, mode_module, comm_period, is_concrete, output_function, switch_function, function_value}

-- ---- sensors

-- the value of the last `sense` of c in the events, of those that were read at u or before
abbrev pub last_sense : ℕ → ℕ → ℕ → ℤ → List Event → ℤ
last_sense c u reading x [] = x
last_sense c u reading x (V.At t ∷ es) = last_sense c u t x es
last_sense c u reading x (V.Sense d y ∷ es) = last_sense c u reading (cond (eqb c d && leb reading u) y x) es
last_sense c u reading x (V.Took i n ∷ es) = last_sense c u reading x es
last_sense c u reading x (V.End t ∷ es) = last_sense c u reading x es

abbrev pub initial : Tables → ℕ → ℤ
initial t c = elim (slice_get t.comms c) [ Some x ↦ x.init | None ↦ pos 0 ]

abbrev pub sense : Tables → List Event → ℕ → ℕ → ℤ
sense t es c u = last_sense c u 0 (initial t c) es

-- ---- states

-- the states of the instants so far, the newest first
abbrev pub History : Type 0
History = List State

abbrev pub stay_of : List (Option Stay) → ℕ → Option Stay
stay_of stays k = elim (slice_get stays k) [ Some x ↦ x | None ↦ None ]

-- whether the module of mode m is in mode m
abbrev pub runs : Tables → List (Option Stay) → ℕ → Bool
runs t stays m = elim (stay_of stays (mode_module t m)) [ Some x ↦ eqb x.mode m | None ↦ false ]

-- ---- outputs

-- the value of c at instant u, where u is in the history; 0 where it isn't
abbrev pub past : History → ℕ → ℕ → ℤ
past h c u = cond (ltb u (length h)) (elim (slice_get h (length h - suc u)) [ Some x ↦ get_or x.values c (pos 0) | None ↦ pos 0 ]) (pos 0)

-- the place of the output that goes to the port
abbrev pub port_output : ℕ → ℕ → List End → Option ℕ
port_output p k [] = None
port_output p k (E.Port q ∷ ends) = cond (eqb p q) (Some k) (port_output p (suc k) ends)
port_output p k (E.Comm c n ∷ ends) = port_output p (suc k) ends

-- the writer of a port in a mode, from invocation k on: its number and the place of its output
abbrev pub writer_from : ℕ → ℕ → ℕ → List Inv → Option (ℕ × ℕ)
writer_from m p k [] = None
writer_from m p k (x ∷ xs) =
    elim (cond (eqb x.mode m) (port_output p 0 x.writes) None) [ Some o ↦ Some (k, o) | None ↦ writer_from m p (suc k) xs ]

abbrev pub input_value : Tables → (ℕ → ℕ → ℤ) → (ℕ → ℕ → ℤ) → ℕ → ℕ → End → ℤ
input_value t seen made m s (E.Comm c n) = seen c (s + n * comm_period t c)
input_value t seen made m s (E.Port p) = elim (writer_from m p 0 t.invs) [ Some w ↦ made w.0 w.1 | None ↦ pos 0 ]

abbrev pub out_by : Tables → (ℕ → ℕ → ℤ) → (ℕ → ℕ → ℤ) → ℕ → ℕ → Option Inv → ℤ
out_by t seen made s k None = pos 0
out_by t seen made s k (Some x) =
    function_value t (output_function t x.task k) (map (input_value t seen made x.mode s) x.reads)

-- what invocation i puts at output k in the round that started at s, following at most `steps` ports
abbrev pub out : ℕ → Tables → (ℕ → ℕ → ℤ) → ℕ → ℕ → ℕ → ℤ
out zero t seen i s k = pos 0
out (suc steps) t seen i s k = out_by t seen (λ w o. out steps t seen w s o) s k (slice_get t.invs i)

-- ---- writes

-- the place of the first end, from k on, that goes to c at `now` in the round from s
abbrev pub end_to : Tables → ℕ → ℕ → ℕ → ℕ → List End → Option ℕ
end_to t c s now k [] = None
end_to t c s now k (E.Port p ∷ ends) = end_to t c s now (suc k) ends
end_to t c s now k (E.Comm d n ∷ ends) =
    cond (eqb c d && eqb (s + n * comm_period t d) now) (Some k) (end_to t c s now (suc k) ends)

abbrev pub in_round : Option Stay → ℕ → Option ℕ
in_round None m = None
in_round (Some y) m = cond (eqb y.mode m) (Some y.start) None

-- the start of the round in which a concrete invocation runs, where the modules are as `stays` says
abbrev pub round_start : Tables → List (Option Stay) → Inv → Option ℕ
round_start t stays x = cond (is_concrete t x) (in_round (stay_of stays (mode_module t x.mode)) x.mode) None

abbrev pub with_start : ℕ → ℕ → Option ℕ → Option Write
with_start i s None = None
with_start i s (Some o) = Some (record { inv = i; start = s; output = o })

abbrev pub write_in : Tables → ℕ → ℕ → ℕ → List End → Option ℕ → Option Write
write_in t c now i ends None = None
write_in t c now i ends (Some s) = with_start i s (end_to t c s now 0 ends)

-- the first write to c that is due at `now`, from invocation k on
abbrev pub write_from : Tables → List (Option Stay) → ℕ → ℕ → ℕ → List Inv → Option Write
write_from t stays c now k [] = None
write_from t stays c now k (x ∷ xs) =
    elim (write_in t c now k x.writes (round_start t stays x)) [ Some w ↦ Some w | None ↦ write_from t stays c now (suc k) xs ]

-- ---- one instant

abbrev pub written_by : Tables → (ℕ → ℕ → ℤ) → List ℤ → ℕ → Option Write → ℤ
written_by t seen old c (Some w) = out (length t.invs) t seen w.inv w.start w.output
written_by t seen old c None = get_or old c (pos 0)

-- what a write gives a communicator, or what it was
abbrev pub written : Tables → (ℕ → ℕ → ℤ) → List (Option Stay) → List ℤ → ℕ → ℕ → ℤ
written t seen stays old now c = written_by t seen old c (write_from t stays c now 0 t.invs)

-- the value of a communicator at `now`
abbrev pub next_value : Tables → (ℕ → ℕ → ℤ) → (ℕ → ℕ → ℤ) → List (Option Stay) → List ℤ → ℕ → ℕ → Option Comm → ℤ
next_value t sensed seen stays old now c None = pos 0
next_value t sensed seen stays old now c (Some x) =
    cond x.sensor (sensed c (x.period * (now / x.period))) (written t seen stays old now c)

abbrev pub next_values : Tables → (ℕ → ℕ → ℤ) → (ℕ → ℕ → ℤ) → List (Option Stay) → List ℤ → ℕ → List ℤ
next_values t sensed seen stays old now =
    list_to (λ c. next_value t sensed seen stays old now c (slice_get t.comms c)) (length t.comms)

abbrev pub switch_holds : Tables → List ℤ → ℕ → Switch → Bool
switch_holds t values k w =
    not (is_zero (function_value t (switch_function t k) (map (λ c. get_or values c (pos 0)) w.reads)))

-- the mode that the first switch of m that holds names, from switch k on; m where none holds
abbrev pub target_from : Tables → List ℤ → ℕ → ℕ → List Switch → ℕ
target_from t values m k [] = m
target_from t values m k (w ∷ ws) =
    cond (eqb w.mode m && switch_holds t values k w) w.target (target_from t values m (suc k) ws)

abbrev pub target : Tables → List ℤ → ℕ → ℕ
target t values m = target_from t values m 0 t.switches

abbrev pub stay_begun : Module → ℕ → Option Stay
stay_begun x now = Some (record { mode = x.start; start = now })

-- where a module goes on that was in a mode at the instant before
abbrev pub go_on : Tables → List ℤ → ℕ → Stay → Option Stay
go_on t values now x =
    elim (eqb now (x.start + mode_period t x.mode)) [
      | true ↦ Some (record { mode = target t values x.mode; start = now })
      | false ↦ Some x
    ]

abbrev pub go_on_or_begin : Tables → List ℤ → ℕ → Module → Option Stay → Option Stay
go_on_or_begin t values now x None = stay_begun x now
go_on_or_begin t values now x (Some old) = go_on t values now old

-- where a module is at `now`, by where it was, and where the modules of lower number are now
abbrev pub next_stay : Tables → List ℤ → ℕ → List (Option Stay) → Module → Option Stay → Option Stay
next_stay t values now lower x old =
    elim x.parent [
      | None ↦ go_on_or_begin t values now x old
      | Some m ↦ elim (runs t lower m) [ true ↦ go_on_or_begin t values now x old | false ↦ None ]
    ]

abbrev pub next_stay_at : Tables → List ℤ → ℕ → List (Option Stay) → ℕ → Option Stay → Option Stay
next_stay_at t values now lower k old =
    elim (slice_get t.modules k) [ Some x ↦ next_stay t values now lower x old | None ↦ None ]

-- where the modules below k are at `now`: a parent has a lower number than its child
abbrev pub stays_to : Tables → List ℤ → ℕ → List (Option Stay) → ℕ → List (Option Stay)
stays_to t values now old zero = []
stays_to t values now old (suc k) =
    let lower = stays_to t values now old k in
    lower ++ next_stay_at t values now lower k (stay_of old k) ∷ []

abbrev pub stays_at : Tables → List ℤ → ℕ → List (Option Stay) → List (Option Stay)
stays_at t values now old = stays_to t values now old (length t.modules)

-- before the first instant every module is inactive
abbrev pub first_value : (ℕ → ℕ → ℤ) → ℕ → Option Comm → ℤ
first_value sensed c None = pos 0
first_value sensed c (Some x) = cond x.sensor (sensed c 0) x.init

abbrev pub first_values : Tables → (ℕ → ℕ → ℤ) → List ℤ
first_values t sensed = list_to (λ c. first_value sensed c (slice_get t.comms c)) (length t.comms)

abbrev pub first_state : Tables → (ℕ → ℕ → ℤ) → State
first_state t sensed =
    let values = first_values t sensed in
    record { values = values; stays = stays_at t values 0 [] }

-- the state at `now`, by the state of the instant before and what reads find
abbrev pub state_after : Tables → (ℕ → ℕ → ℤ) → (ℕ → ℕ → ℤ) → State → ℕ → State
state_after t sensed seen old now =
    let values = next_values t sensed seen old.stays old.values now in
    record { values = values; stays = stays_at t values now old.stays }

abbrev pub next_state : Tables → (ℕ → ℕ → ℤ) → History → State → ℕ → State
next_state t sensed h old now = state_after t sensed (past h) old now

abbrev pub no_state : State
no_state = record { values = []; stays = [] }

abbrev pub newest : History → State
newest [] = no_state
newest (x ∷ h) = x

-- the states of the instants 0 to `now`, where the sensors show what `sensed` says
abbrev pub history : Tables → (ℕ → ℕ → ℤ) → ℕ → History
history t sensed zero = first_state t sensed ∷ []
history t sensed (suc n) = let h = history t sensed n in next_state t sensed h (newest h) (suc n) ∷ h

abbrev pub state : Tables → List Event → ℕ → State
state t es now = newest (history t (sense t es) now)

abbrev pub module_stay : Tables → List Event → ℕ → ℕ → Option Stay
module_stay t es k now = stay_of (state t es now).stays k

abbrev pub val : Tables → List Event → ℕ → ℕ → ℤ
val t es c now = get_or (state t es now).values c (pos 0)

-- ---- the lines of values and modes

abbrev pub mode_of : Option Stay → Option ℕ
mode_of (Some x) = Some x.mode
mode_of None = None

abbrev pub same_mode : Option ℕ → Option ℕ → Bool
same_mode None None = true
same_mode (Some a) (Some b) = eqb a b
same_mode _ _ = false

abbrev pub value_in : State → ℕ → ℤ
value_in x c = get_or x.values c (pos 0)

abbrev pub mode_in_state : State → ℕ → Option ℕ
mode_in_state x k = mode_of (stay_of x.stays k)

-- the line of a communicator: at the first instant, and where its value is another than before
abbrev pub value_line : ℕ → State → State → ℕ → List Line
value_line now old new c =
    cond (eqb now 0 || not (same (value_in old c) (value_in new c))) (ValueLine now c (value_in new c) ∷ []) []

-- the line of a module, where its mode is another than before
abbrev pub mode_line : ℕ → State → State → ℕ → List Line
mode_line now old new k = cond (same_mode (mode_in_state old k) (mode_in_state new k)) [] (ModeLine now k (mode_in_state new k) ∷ [])

-- the lines of an instant, by the state before it and its own
abbrev pub changes : Tables → ℕ → State → State → List Line
changes t now old new = up_to (value_line now old new) (length t.comms) ++ up_to (mode_line now old new) (length t.modules)

-- before the first instant every module is inactive
abbrev pub before : Tables → List Event → ℕ → State
before t es zero = no_state
before t es (suc n) = state t es n

abbrev pub value_lines : Tables → List Event → ℕ → List Line
value_lines t es now = changes t now (before t es now) (state t es now)

-- the lines of the instants up to that of the newest state
abbrev pub lines_so_far : Tables → History → List Line
lines_so_far t [] = []
lines_so_far t (x ∷ h) = lines_so_far t h ++ changes t (length h) (newest h) x

abbrev pub all_value_lines : Tables → List Event → ℕ → List Line
all_value_lines t es now = lines_so_far t (history t (sense t es) now)

-- the lines of the instants 0 to `end`
abbrev pub run_lines : Tables → List Event → ℕ → List Line
run_lines t es end = up_to (value_lines t es) (suc end)
