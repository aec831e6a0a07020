-- The rules by which a line of a script is judged, against the events before it.
use Rattle.std.specs.Prelude.{ℕ, ◌-◌, ◌^◌, Bool, true, false, ◌&&◌, ◌||◌, not, ℤ, pos, neg_ℤ, List, [], ◌∷◌, ◌++◌, Option, Some, None, is_some, is_none, slice_get, nat_lt, nat_le, ◌==◌, unwrap_or, if◌then◌else◌, Ok, Err}
use Rattle.std.specs.{declared.result.Result.Result, List.position_from, Option.option_map, Str.bytes_eq}
use Rattle.htl_base.specs.{declared.Ty.Ty, declared.limits.TheConstants.MAX_INSTANT}
use Rattle.htl_base.specs.declared.Ty.TheVariants as ty
use Rattle.htl_model.specs.{declared.parts.Comm.Comm, declared.parts.Inv.Inv, declared.event.Event.Event, Tables.Tables, Tables.task_worst}
use Rattle.htl_model.specs.declared.event.Event.TheVariants as event
use Rattle.htl_script.specs.{declared.fault.ScriptKind.ScriptKind, declared.judge.Past.Past, Lines.ScriptLine, Lines.is_past_limit, Lines.is_long, Lines.is_passed_over}
use Rattle.htl_script.specs.declared.fault.ScriptKind.TheVariants as kind
use Rattle.htl_script.specs.Statements.{Statement, At, Sense, Took, End, statement_of}

-- ---- what the events before a line leave: the last reading, and the instant with which the run ends

abbrev pub at_first : Past
at_first = record { reading = None; end = None }

abbrev pub past_after : Past → Event → Past
past_after past (event.At instant) = record { reading = Some instant; end = past.end }
past_after past (event.End instant) = record { reading = past.reading; end = Some instant }
past_after past _ = past

abbrev pub past_after_all : Past → List Event → Past
past_after_all past [] = past
past_after_all past (e ∷ es) = past_after_all (past_after past e) es

abbrev pub past_of : List Event → Past
past_of events = past_after_all at_first events

-- ---- what names mean

-- the number of the sensor with this name
abbrev pub is_sensor : List ℕ → Comm → Bool
is_sensor name c = c.sensor && bytes_eq c.name name

abbrev pub sensor_of : Tables → List ℕ → Option ℕ
sensor_of t name = position_from (is_sensor name) 0 t.comms

abbrev pub type_of : Tables → ℕ → Option Ty
type_of t c = option_map (λ (x : Comm). x.ty) (slice_get t.comms c)

-- the name MODULE.MODE.TASK is that of a concrete invocation
abbrev pub is_invocation : Tables → List ℕ → Inv → Bool
is_invocation t name i =
    elim (slice_get t.tasks i.task) [
      | Some k ↦ elim (slice_get t.modes i.mode) [
        | Some m ↦ elim (slice_get t.modules m.«module») [
          | Some u ↦ not k.is_abstract && bytes_eq (u.name ++ 46 ∷ (m.name ++ 46 ∷ k.name)) name
          | None ↦ false
        ]
        | None ↦ false
      ]
      | None ↦ false
    ]

-- the number of the concrete invocation with this name
abbrev pub invocation_of : Tables → List ℕ → Option ℕ
invocation_of t name = position_from (is_invocation t name) 0 t.invs

-- the worst case of an invocation's task, in ticks
abbrev pub worst_of : Tables → ℕ → ℕ
worst_of t i = elim (slice_get t.invs i) [ Some x ↦ task_worst t x.task | None ↦ 0 ]

-- ---- the rules

abbrev pub is_unknown : Tables → Statement → Bool
is_unknown t (Sense name value) = is_none (sensor_of t name)
is_unknown t (Took name ticks) = is_none (invocation_of t name)
is_unknown t _ = false

-- a value with a sign is a 64-bit value, or for a bool 0 or 1
abbrev pub is_value : Bool × ℕ → Option Ty → Bool
is_value value None = false
is_value value (Some ty.Int) = nat_le value.1 (if value.0 then 2 ^ 63 else 2 ^ 63 - 1)
is_value value (Some ty.Bool) = not value.0 && nat_lt value.1 2

abbrev pub is_out_of_range : Tables → Statement → Bool
is_out_of_range t (At instant) = nat_lt MAX_INSTANT instant
is_out_of_range t (Sense name value) = not (is_value value (type_of t (unwrap_or (sensor_of t name) 0)))
is_out_of_range t (Took name ticks) = (ticks == 0) || nat_lt (2 ^ 63 - 1) ticks
is_out_of_range t (End instant) = nat_lt MAX_INSTANT instant

abbrev pub is_above : ℕ → Option ℕ → Bool
is_above instant None = true
is_above instant (Some reading) = nat_lt reading instant

abbrev pub is_below : ℕ → Option ℕ → Bool
is_below instant None = false
is_below instant (Some reading) = nat_lt instant reading

abbrev pub is_out_of_order : Past → Statement → Bool
is_out_of_order past (At instant) = not (is_above instant past.reading)
is_out_of_order past (End instant) = is_below instant past.reading
is_out_of_order past _ = is_none past.reading

-- a length above the worst case, which is given too
abbrev pub overrun_of : Tables → Statement → Option ScriptKind
overrun_of t (Took name ticks) =
    let worst = worst_of t (unwrap_or (invocation_of t name) 0) in
    if nat_lt worst ticks then Some (kind.Overrun ticks worst) else None
overrun_of t _ = None

-- the first rule that a statement breaks
abbrev pub fault_of : Tables → Past → Statement → Option ScriptKind
fault_of t past s =
    if is_unknown t s then Some kind.Unknown
    else if is_out_of_range t s then Some kind.Range
    else if is_out_of_order past s then Some kind.Order
    else overrun_of t s

-- the number of a value with a sign, which is nonzero where the sign is a `-`
abbrev pub number_with_sign : Bool × ℕ → ℤ
number_with_sign value = if value.0 then neg_ℤ (pos value.1) else pos value.1

abbrev pub event_of : Tables → Statement → Event
event_of t (At instant) = event.At instant
event_of t (Sense name value) = event.Sense (unwrap_or (sensor_of t name) 0) (number_with_sign value)
event_of t (Took name ticks) = event.Took (unwrap_or (invocation_of t name) 0) ticks
event_of t (End instant) = event.End instant

abbrev pub event_unless : Option ScriptKind → Event → Result Event ScriptKind
event_unless None e = Ok e
event_unless (Some k) e = Err k

-- the event of a statement, or its first fault
abbrev pub judged_statement : Tables → Past → Option Statement → Result Event ScriptKind
judged_statement t past None = Err kind.Form
judged_statement t past (Some s) = event_unless (fault_of t past s) (event_of t s)

abbrev pub as_some : Result Event ScriptKind → Result (Option Event) ScriptKind
as_some (Ok e) = Ok (Some e)
as_some (Err k) = Err k

-- a line that isn't too long: no event where it is passed over
abbrev pub judged_text : Tables → Past → List ℕ → Result (Option Event) ScriptKind
judged_text t past text =
    if is_passed_over text then Ok None
    else if is_some past.end then Err kind.After
    else as_some (judged_statement t past (statement_of text))

-- a line that begins behind `start` bytes of the script: its event, nothing where it is passed over, or the first
-- rule that it breaks
abbrev pub judged : Tables → ℕ → Past → ScriptLine → Result (Option Event) ScriptKind
judged t start past line =
    if is_past_limit start line then Err kind.Size
    else if is_long line then Err kind.Long
    else judged_text t past line.text
