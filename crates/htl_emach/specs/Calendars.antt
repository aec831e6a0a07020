-- The modes of the modules, their triggers, and the block that runs.
use Rattle.std.specs.Prelude.{ℕ, suc, ◌+◌, ◌<◌, Bool, false, cond, eqb, List, [], ◌∷◌, length, slice_get, set, map, replicate, Option, Some, None, ℤ}
use Rattle.htl_model.specs.{declared.parts.Module.Module, Tables.Tables, Tables.mode_module}
use Rattle.htl_ecode.specs.{declared.ecode.ECode.ECode, declared.instr.EInstr.EInstr, Departure.entered, Paths.holds_in}
use Rattle.htl_ecode.specs.declared.instr.EInstr.TheVariants as I
use Rattle.htl_emach.specs.{declared.trigger.Trigger.Trigger, declared.trigger.Block.Block, declared.trigger.EDone.EDone, Contents.Content, Contents.effect}

-- the mode of each module, and its trigger in each phase
pub record Calendar : Type 0 where
  pub modes : List (Option ℕ)
  pub writes : List (Option Trigger)
  pub switches : List (Option Trigger)
  pub reads : List (Option Trigger)

-- a machine: its calendar, and the block that has begun and hasn't returned
pub record Standing : Type 0 where
  pub calendar : Calendar
  pub running : Option Block

-- each list has an entry for the module
pub record HasModule (c : Calendar) (k : ℕ) : Type 0 where
  pub modes : k < length c.modes
  pub writes : k < length c.writes
  pub switches : k < length c.switches
  pub reads : k < length c.reads

abbrev pub list_at : {A : Type 0} → List (Option A) → ℕ → Option A
list_at xs k = elim (slice_get xs k) [ Some x ↦ x | None ↦ None ]

-- ---- at the start

abbrev pub first_trigger : ECode → Module → Option Trigger
first_trigger code x = elim x.parent [ None ↦ Some (record { at = 0; target = entered code x.start }) | Some m ↦ None ]

abbrev pub first_calendar : Tables → ECode → Calendar
first_calendar t code =
    record {
      modes = replicate (length t.modules) None;
      writes = replicate (length t.modules) None;
      switches = map (first_trigger code) t.modules;
      reads = replicate (length t.modules) None;
    }

abbrev pub first_standing : Tables → ECode → Standing
first_standing t code = record { calendar = first_calendar t code; running = None }

-- ---- triggers

abbrev pub triggers_of : ℕ → Calendar → List (Option Trigger)
triggers_of phase c = cond (eqb phase 1) c.writes (cond (eqb phase 2) c.switches c.reads)

abbrev pub with_trigger : ℕ → ℕ → Option Trigger → Calendar → Calendar
with_trigger phase k x c =
    cond (eqb phase 1) (record c { writes = set c.writes k x })
    (cond (eqb phase 2) (record c { switches = set c.switches k x }) (record c { reads = set c.reads k x }))

-- the target of a trigger that is due
abbrev pub target_at : ℕ → Option Trigger → Option ℕ
target_at at None = None
target_at at (Some x) = cond (eqb x.at at) (Some x.target) None

-- the first module, from module k on, with a trigger that is due, and its target
abbrev pub first_due : ℕ → ℕ → List (Option Trigger) → Option (ℕ × ℕ)
first_due at k [] = None
first_due at k (x ∷ xs) = elim (target_at at x) [ Some a ↦ Some (k, a) | None ↦ first_due at (suc k) xs ]

abbrev pub block_from : ℕ → Option (ℕ × ℕ) → Option Block
block_from at None = None
block_from at (Some p) = Some (record { «module» = p.0; address = p.1; at = at })

-- the block in which the next instruction stands: the one that runs, or the first that is due
abbrev pub block_in : ℕ → ℕ → Standing → Option Block
block_in phase at m = elim m.running [ Some b ↦ Some b | None ↦ block_from at (first_due at 0 (triggers_of phase m.calendar)) ]

-- a trigger is taken as its block begins
abbrev pub taken_by : ℕ → Option (ℕ × ℕ) → Calendar → Calendar
taken_by phase None c = c
taken_by phase (Some p) c = with_trigger phase p.0 None c

abbrev pub taken : ℕ → ℕ → Standing → Calendar
taken phase at m = elim m.running [ Some b ↦ m.calendar | None ↦ taken_by phase (first_due at 0 (triggers_of phase m.calendar)) m.calendar ]

-- ---- one instruction

-- whether the module of a mode is in the mode
abbrev pub runs_in : Tables → List (Option ℕ) → ℕ → Bool
runs_in t modes m = elim (list_at modes (mode_module t m)) [ Some x ↦ eqb x m | None ↦ false ]

-- where an instruction at a leads, by the switches that hold and the modes that run; nowhere at the end of a block
abbrev pub goes : (ℕ → Bool) → (ℕ → Bool) → ℕ → EInstr → Option ℕ
goes holds runs a I.Return = None
goes holds runs a (I.Jump x) = Some x
goes holds runs a (I.JumpIf k x) = Some (cond (holds k) x (suc a))
goes holds runs a (I.IfMode m x) = Some (cond (runs m) x (suc a))
goes holds runs a _ = Some (suc a)

-- where a module begins that is forked
abbrev pub entry_of : Tables → ECode → ℕ → ℕ
entry_of t code k = elim (slice_get t.modules k) [ Some x ↦ entered code x.start | None ↦ 0 ]

-- what an instruction does in module k
abbrev pub calendar_effect : Tables → ECode → ℕ → ℕ → EInstr → Calendar → Calendar
calendar_effect t code at k (I.Future d p x) c = with_trigger p k (Some (record { at = at + d; target = x })) c
calendar_effect t code at k (I.Enter m) c = record c { modes = set c.modes k (Some m) }
calendar_effect t code at k I.Leave c = record c { modes = set c.modes k None }
calendar_effect t code at k (I.Fork j) c = with_trigger 2 j (Some (record { at = at; target = entry_of t code j })) c
calendar_effect t code at k _ c = c

-- the block after an instruction of module k that leads there
abbrev pub going_on : ℕ → ℕ → Option ℕ → Option Block
going_on k at None = None
going_on k at (Some x) = Some (record { «module» = k; address = x; at = at })

abbrev pub done_at : ℕ → ℕ → Option EInstr → Option EDone
done_at k a None = None
done_at k a (Some i) = Some (record { address = a; instr = i; «module» = k })

-- the instruction that is done
abbrev pub done_in : ECode → ℕ → ℕ → Standing → Option EDone
done_in code phase at m = elim (block_in phase at m) [ Some b ↦ done_at b.«module» b.address (slice_get code.instrs b.address) | None ↦ None ]

-- the machine after an instruction
abbrev pub stepped : Tables → ECode → List ℤ → ℕ → Calendar → EDone → Standing
stepped t code values at c d =
    record {
      calendar = calendar_effect t code at d.«module» d.instr c;
      running = going_on d.«module» at (goes (holds_in t values) (runs_in t c.modes) d.address d.instr);
    }

abbrev pub standing_after : Tables → ECode → List ℤ → ℕ → ℕ → Standing → Option EDone → Standing
standing_after t code values phase at m None = m
standing_after t code values phase at m (Some d) = stepped t code values at (taken phase at m) d

abbrev pub content_after : Tables → Content → Option EDone → Content
content_after t w None = w
content_after t w (Some d) = effect t d.instr w
