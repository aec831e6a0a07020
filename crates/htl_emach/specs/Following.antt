-- Where a machine stands before an instant and inside one, by the meaning of the tables.
use Rattle.std.specs.Prelude.{◌≡◌, ℕ, zero, suc, ◌-◌, ◌≤◌, ◌<◌, cond, eqb, List, [], ◌∷◌, ◌++◌, length, slice_get, Option, Some, None, ℤ}
use Rattle.htl_model.specs.{declared.event.Event.Event, Lists.up_to, Tables.Tables, Meaning.state, Meaning.before}
use Rattle.htl_ecode.specs.{declared.ecode.ECode.ECode, declared.instr.EInstr.EInstr, Paths.Done, Paths.on, Paths.writes_done, Paths.switches_done, Paths.reads_done}
use Rattle.htl_emach.specs.{declared.trigger.Block.Block, declared.trigger.EDone.EDone, Calendars.Calendar, Calendars.Standing, Calendars.calendar_effect, Leading.Ends, Leading.goes_at, Leading.IsAllowed, Leading.AreAllowed}
use Rattle.htl_emach.specs.Pending.{Between}

-- the calendar after the instructions at these addresses are done in module k
abbrev pub calendar_at : Tables → ECode → ℕ → ℕ → Option EInstr → Calendar → Calendar
calendar_at t code at k None c = c
calendar_at t code at k (Some i) c = calendar_effect t code at k i c

abbrev pub calendar_replay : Tables → ECode → ℕ → ℕ → List ℕ → Calendar → Calendar
calendar_replay t code at k [] c = c
calendar_replay t code at k (a ∷ xs) c = calendar_replay t code at k xs (calendar_at t code at k (slice_get code.instrs a) c)

-- what a phase does in a module
abbrev pub phase_blocks : Tables → ECode → List Event → ℕ → ℕ → ℕ → List Done
phase_blocks t code es now phase k =
    cond (eqb phase 1) (writes_done t code now (before t es now) k)
    (cond (eqb phase 2) (switches_done t code now (before t es now) (state t es now) k) (reads_done t code now (state t es now) k))

abbrev pub phase_path : Tables → ECode → List Event → ℕ → ℕ → List Done
phase_path t code es now phase = up_to (phase_blocks t code es now phase) (length t.modules)

-- the blocks of n modules from module k on
abbrev pub from_module : (ℕ → List Done) → ℕ → ℕ → List Done
from_module f zero k = []
from_module f (suc n) k = f k ++ from_module f n (suc k)

abbrev pub blocks_to_come : Tables → ECode → List Event → ℕ → ℕ → ℕ → List Done
blocks_to_come t code es now phase k = from_module (phase_blocks t code es now phase) (length t.modules - k) k

-- a block of module k runs: the rest of its addresses are passed from a, and lead to the calendar between this block and the next
pub record BlockRuns (t : Tables) (code : ECode) (es : List Event) (now phase : ℕ) (c : Calendar) (k a : ℕ) (xs : List ℕ) : Type 0 where
  pub within : k < length t.modules
  pub ends : Ends code.instrs (goes_at t es now) a xs
  pub allowed : AreAllowed t code.instrs phase k xs
  pub leads : Between t code es now phase (calendar_replay t code now k xs c) (suc k)

pub record IsInBlock (t : Tables) (code : ECode) (es : List Event) (now phase : ℕ) (c : Calendar) (b : Block) (rest : List Done) : Type 0 where
  pub at : b.at ≡ now
  pub path : List ℕ
  pub runs : BlockRuns t code es now phase c b.«module» b.address path
  pub left : rest ≡ on b.«module» path ++ blocks_to_come t code es now phase (suc b.«module»)

pub record IsBetweenBlocks (t : Tables) (code : ECode) (es : List Event) (now phase : ℕ) (c : Calendar) (rest : List Done) : Type 0 where
  pub «module» : ℕ
  pub within : «module» ≤ length t.modules
  pub calendar : Between t code es now phase c «module»
  pub left : rest ≡ blocks_to_come t code es now phase «module»

abbrev pub PhaseStands : Tables → ECode → List Event → ℕ → ℕ → Calendar → Option Block → List Done → Type 0
PhaseStands t code es now phase c None rest = IsBetweenBlocks t code es now phase c rest
PhaseStands t code es now phase c (Some b) rest = IsInBlock t code es now phase c b rest

-- the machine stands in a phase of an instant: these addresses are done, those are to come
pub record Midway (t : Tables) (code : ECode) (es : List Event) (now phase : ℕ) (m : Standing) (done rest : List Done) : Type 0 where
  pub path : phase_path t code es now phase ≡ done ++ rest
  pub stands : PhaseStands t code es now phase m.calendar m.running rest

abbrev pub done_of : EDone → Done
done_of d = record { «module» = d.«module»; address = d.address }

-- an instruction that was done was the next; where none was, none is to come
abbrev pub Onward : Tables → ECode → List Event → ℕ → ℕ → Standing → List Done → List Done → Option EDone → Type 0
Onward t code es now phase m done rest None = (rest ≡ []) × (m.running ≡ None) × Between t code es now phase m.calendar (length t.modules)
Onward t code es now phase m done rest (Some d) =
    (more : List Done) × (rest ≡ done_of d ∷ more) × (slice_get code.instrs d.address ≡ Some d.instr) × IsAllowed t phase d.«module» d.instr × Midway t code es now phase m (done ++ done_of d ∷ []) more

-- wherever in the phase the machine stood, it went on as its answer says; in the switch phase the values are those of the instant
abbrev pub GoesOn : Tables → ECode → List Event → ℕ → ℕ → List ℤ → Standing → Standing → Option EDone → Type 0
GoesOn t code es now phase values old new result =
    (done rest : List Done) → (phase ≡ 2 → values ≡ (state t es now).values) → Midway t code es now phase old done rest → Onward t code es now phase new done rest result

-- wherever in the phase the machine stands, all of its instructions are done
abbrev pub IsThrough : Tables → ECode → List Event → ℕ → ℕ → Standing → Type 0
IsThrough t code es now phase m = (done rest : List Done) → Midway t code es now phase m done rest → Onward t code es now phase m done rest None

-- a machine stands before an instant: no block runs, and each module's mode and triggers are those that the rounds before the instant ask for
pub record FollowsCode (t : Tables) (code : ECode) (es : List Event) (now : ℕ) (m : Standing) : Type 0 where
  pub idle : m.running ≡ None
  pub calendar : Between t code es now 1 m.calendar 0
