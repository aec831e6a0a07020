-- Invocations and switches.
use Rattle.std.specs.Prelude.{ℕ, ◌==◌, ◌&&◌, ◌-◌, Bool, true, false, not, List, [], ◌∷◌, ◌++◌, Option, Ok, Some, None, length, slice_get, nat_lt, nat_le, count_by}
use Rattle.htl_object.specs.{Common.w16, Common.w32, Common.to_be_bytes, Common.list_any, Common.flat_map, Common.Mode, Common.Port, Common.Task, Common.End, Common.Inv, Common.Switch, declared.malformed.MalKind.TheVariants.Index}
use Rattle.htl_base.specs.declared.limits.TheConstants.{MAX_PERIOD, MAX_ENDS, MAX_ARGUMENTS, MAX_MODE_INVOCATIONS}
use Rattle.htl_model.specs.declared.parts.End.TheVariants as E
use Rattle.htl_object.specs.Reading.{Read, ◌>>=◌, field_at, number_at, tagged_at, one_at, two_at, list_at}
use Rattle.htl_object.specs.{Fields.option_bytes, Fields.option_at, Fields.place_at, Fields.is_owner, Modules.is_mode_of}

-- ---- ends

abbrev pub end_bytes : End → List ℕ
end_bytes (E.Comm comm instance) = 0 ∷ (to_be_bytes w16 comm ++ to_be_bytes w32 instance)
end_bytes (E.Port port) = 1 ∷ to_be_bytes w16 port

abbrev pub is_instance : ℕ → Bool
is_instance n = nat_le n MAX_PERIOD

-- the port is one of the mode
abbrev pub is_port_of : List Port → ℕ → ℕ → Bool
is_port_of ports mode n = elim (slice_get ports n) [ Some p ↦ p.mode == mode | None ↦ false ]

abbrev pub end_table : ℕ → List Port → ℕ → List (ℕ × (List ℕ → Read End))
end_table comms ports mode =
    (0, two_at (place_at comms) (field_at Index is_instance (number_at w32)) E.Comm)
    ∷ (1, one_at (field_at Index (is_port_of ports mode) (number_at w16)) E.Port)
    ∷ []

abbrev pub end_at : ℕ → List Port → ℕ → List ℕ → Read End
end_at comms ports mode = tagged_at (end_table comms ports mode)

abbrev pub ends_bytes : List End → List ℕ
ends_bytes ends = to_be_bytes w16 (length ends) ++ flat_map end_bytes ends

abbrev pub ends_at : ℕ → List Port → ℕ → List ℕ → Read (List End)
ends_at comms ports mode = list_at MAX_ENDS (λ _. end_at comms ports mode)

-- ---- invocations

abbrev pub inv_bytes : Inv → List ℕ
inv_bytes i = to_be_bytes w16 i.mode ++ (to_be_bytes w16 i.task ++ (option_bytes i.parent ++ (ends_bytes i.reads ++ ends_bytes i.writes)))

abbrev pub last_inv_mode : List Inv → ℕ
last_inv_mode before = elim (slice_get before (length before - 1)) [ Some i ↦ i.mode | None ↦ 0 ]

-- a mode with room for one more
abbrev pub is_inv_mode : ℕ → List Inv → ℕ → Bool
is_inv_mode modes before n = is_owner modes (last_inv_mode before) n && nat_lt (count_by (λ i. i.mode == n) before) MAX_MODE_INVOCATIONS

-- a task of the mode's module that the mode does not invoke yet
abbrev pub is_inv_task : List Mode → List Task → List Inv → ℕ → ℕ → Bool
is_inv_task modes tasks before mode n =
    elim (slice_get tasks n) [ Some t ↦ is_mode_of modes t.«module» mode | None ↦ false ]
    && not (list_any (λ i. (i.mode == mode) && (i.task == n)) before)

abbrev pub is_parent : ℕ → Option ℕ → Bool
is_parent invs None = true
is_parent invs (Some n) = nat_lt n invs

-- comms and invs are counts
abbrev pub inv_at : ℕ → ℕ → List Mode → List Task → List Port → List Inv → List ℕ → Read Inv
inv_at comms invs modes tasks ports before bytes =
    field_at Index (is_inv_mode (length modes) before) (number_at w16) bytes >>= λ mode rest.
    field_at Index (is_inv_task modes tasks before mode) (number_at w16) rest >>= λ task rest.
    field_at Index (is_parent invs) option_at rest >>= λ parent rest.
    ends_at comms ports mode rest >>= λ reads rest.
    ends_at comms ports mode rest >>= λ writes rest.
    Ok (record { mode = mode; task = task; parent = parent; reads = reads; writes = writes }, rest)

-- ---- switches

abbrev pub places_bytes : List ℕ → List ℕ
places_bytes ns = to_be_bytes w16 (length ns) ++ flat_map (to_be_bytes w16) ns

abbrev pub switch_bytes : Switch → List ℕ
switch_bytes s = to_be_bytes w16 s.mode ++ (to_be_bytes w16 s.target ++ places_bytes s.reads)

abbrev pub last_switch_mode : List Switch → ℕ
last_switch_mode before = elim (slice_get before (length before - 1)) [ Some s ↦ s.mode | None ↦ 0 ]

-- a mode of the module of the first
abbrev pub is_target : List Mode → ℕ → ℕ → Bool
is_target modes mode n = elim (slice_get modes n) [ Some m ↦ is_mode_of modes m.«module» mode | None ↦ false ]

-- a communicator that was not named yet
abbrev pub is_read : ℕ → List ℕ → ℕ → Bool
is_read comms before n = nat_lt n comms && not (list_any (λ c. c == n) before)

abbrev pub switch_reads_at : ℕ → List ℕ → Read (List ℕ)
switch_reads_at comms = list_at MAX_ARGUMENTS (λ reads. field_at Index (is_read comms reads) (number_at w16))

abbrev pub switch_at : ℕ → List Mode → List Switch → List ℕ → Read Switch
switch_at comms modes before bytes =
    field_at Index (is_owner (length modes) (last_switch_mode before)) (number_at w16) bytes >>= λ mode rest.
    field_at Index (is_target modes mode) (number_at w16) rest >>= λ target rest.
    switch_reads_at comms rest >>= λ reads rest.
    Ok (record { mode = mode; target = target; reads = reads }, rest)
