-- What is pending: the mode and the triggers of each module, before an instant and between two blocks of it, by the meaning of the tables.
use Rattle.std.specs.Prelude.{◌≡◌, ℕ, suc, ◌+◌, ◌-◌, ◌≤◌, ◌<◌, Bool, true, cond, eqb, ltb, List, length, Option, Some, None}
use Rattle.htl_model.specs.{declared.event.Event.Event, declared.state.Stay.Stay, Tables.Tables, Tables.mode_period, Tables.mode_module, Meaning.state, Meaning.before, Meaning.stay_of, Meaning.mode_of, Ranges.parent_of}
use Rattle.htl_ecode.specs.{declared.ecode.ECode.ECode, Offsets.next_offset, Departure.block_at, Departure.entered, Paths.round_end}
use Rattle.htl_emach.specs.{declared.trigger.Trigger.Trigger, Calendars.Calendar, Calendars.list_at}

abbrev pub trigger_at : ℕ → Option ℕ → Option Trigger
trigger_at at None = None
trigger_at at (Some a) = Some (record { at = at; target = a })

-- the next block of a phase at offset `from` or later, in a round of mode m that began at s
abbrev pub next_block : Tables → ECode → ℕ → ℕ → ℕ → ℕ → Option Trigger
next_block t code m phase s from =
    elim (next_offset t m phase from) [ Some o ↦ trigger_at (s + o) (block_at t code m phase o) | None ↦ None ]

-- the next write or read block at the instant `from` or later
abbrev pub awaited : Tables → ECode → ℕ → ℕ → Option Stay → Option Trigger
awaited t code phase from None = None
awaited t code phase from (Some x) = next_block t code x.mode phase x.start (from - x.start)

-- the end of the round
abbrev pub ending : Tables → ECode → Stay → Trigger
ending t code x = record { at = x.start + mode_period t x.mode; target = round_end t code x.mode }

-- a module begins: a root module at the first instant, another once the blocks of the modules below k are done and its parent's is one of them
abbrev pub is_called : Tables → ℕ → ℕ → Bool
is_called t k j = elim (parent_of t j) [ None ↦ true | Some q ↦ ltb (mode_module t q) k ]

abbrev pub entering : ECode → ℕ → Option Stay → Option Trigger
entering code now None = None
entering code now (Some y) = Some (record { at = now; target = entered code y.mode })

-- the trigger of the switch phase before the block of module j, where it was and where it will be
abbrev pub turning : Tables → ECode → ℕ → ℕ → ℕ → Option Stay → Option Stay → Option Trigger
turning t code now k j (Some x) new = Some (ending t code x)
turning t code now k j None new = cond (is_called t k j) (entering code now new) None

abbrev pub ended : Tables → ECode → Option Stay → Option Trigger
ended t code None = None
ended t code (Some x) = Some (ending t code x)

-- a module's part of a calendar
pub record Entry : Type 0 where
  pub mode : Option ℕ
  pub write : Option Trigger
  pub switch : Option Trigger
  pub read : Option Trigger

abbrev pub entry_at : Calendar → ℕ → Entry
entry_at c k = record { mode = list_at c.modes k; write = list_at c.writes k; switch = list_at c.switches k; read = list_at c.reads k }

-- the entry of module j before the instant; after its write block; after its switch block; after its read block
abbrev pub opening : Tables → ECode → ℕ → ℕ → Option Stay → Option Stay → Entry
opening t code now j old new =
    record { mode = mode_of old; write = awaited t code 1 now old; switch = turning t code now 0 j old new; read = awaited t code 3 now old }

-- where the switch blocks of the modules below k are done
abbrev pub pending_entry : Tables → ECode → ℕ → ℕ → ℕ → Option Stay → Option Stay → Entry
pending_entry t code now k j old new =
    record { mode = mode_of old; write = awaited t code 1 (suc now) old; switch = turning t code now k j old new; read = awaited t code 3 now old }

abbrev pub switched : Tables → ECode → ℕ → Option Stay → Entry
switched t code now new =
    record { mode = mode_of new; write = awaited t code 1 (suc now) new; switch = ended t code new; read = awaited t code 3 now new }

abbrev pub closed : Tables → ECode → ℕ → Option Stay → Entry
closed t code now new =
    record { mode = mode_of new; write = awaited t code 1 (suc now) new; switch = ended t code new; read = awaited t code 3 (suc now) new }

-- the entry of module j in a phase, where the blocks of the modules below k are done
abbrev pub entry_before : Tables → ECode → ℕ → ℕ → ℕ → ℕ → Option Stay → Option Stay → Entry
entry_before t code now phase k j old new =
    cond (eqb phase 1) (opening t code now j old new) (cond (eqb phase 2) (pending_entry t code now k j old new) (switched t code now new))

abbrev pub entry_after : Tables → ECode → ℕ → ℕ → ℕ → Option Stay → Option Stay → Entry
entry_after t code now phase j old new =
    cond (eqb phase 1) (pending_entry t code now 0 j old new) (cond (eqb phase 2) (switched t code now new) (closed t code now new))

pub record IsSized (t : Tables) (c : Calendar) : Type 0 where
  pub modes : length c.modes ≡ length t.modules
  pub writes : length c.writes ≡ length t.modules
  pub switches : length c.switches ≡ length t.modules
  pub reads : length c.reads ≡ length t.modules

-- where a module was before the instant, and where it is
abbrev pub old_stay : Tables → List Event → ℕ → ℕ → Option Stay
old_stay t es now j = stay_of (before t es now).stays j

abbrev pub new_stay : Tables → List Event → ℕ → ℕ → Option Stay
new_stay t es now j = stay_of (state t es now).stays j

-- the calendar in a phase, where the blocks of the modules below k are done
pub record Between (t : Tables) (code : ECode) (es : List Event) (now phase : ℕ) (c : Calendar) (k : ℕ) : Type 0 where
  pub sized : IsSized t c
  pub below : (j : ℕ) → j < k → entry_at c j ≡ entry_after t code now phase j (old_stay t es now j) (new_stay t es now j)
  pub above : (j : ℕ) → k ≤ j → j < length t.modules → entry_at c j ≡ entry_before t code now phase k j (old_stay t es now j) (new_stay t es now j)
