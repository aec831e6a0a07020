-- When a machine next has something to do.
use Rattle.std.specs.Prelude.{◌≡◌, ℕ, ◌≤◌, cond, leb, List, [], ◌∷◌, Option, Some, None}
use Rattle.htl_model.specs.{declared.event.Event.Event, Ranges.AreInRange, Tables.Tables}
use Rattle.htl_ecode.specs.{declared.ecode.ECode.ECode, Paths.Done}
use Rattle.htl_emach.specs.{declared.trigger.Trigger.Trigger, declared.trigger.Block.Block, Calendars.Calendar, Calendars.Standing, Calendars.list_at, Calendars.triggers_of, Following.Midway}

-- a trigger is due at this instant
abbrev pub IsDueAt : Calendar → ℕ → Type 0
IsDueAt c at = (phase : ℕ) × (k : ℕ) × (x : Trigger) × (list_at (triggers_of phase c) k ≡ Some x) × (x.at ≡ at)

-- the earliest instant at which a trigger is due; none where there is no trigger
abbrev pub IsEarliest : Calendar → Option ℕ → Type 0
IsEarliest c None = (at : ℕ) → IsDueAt c at → ⊥
IsEarliest c (Some at) = IsDueAt c at × ((other : ℕ) → IsDueAt c other → at ≤ other)

abbrev pub IsNextOf : Calendar → Option Block → Option ℕ → Type 0
IsNextOf c (Some b) o = o ≡ Some b.at
IsNextOf c None o = IsEarliest c o

-- the instant of the block that runs, or else the earliest at which a trigger is due
abbrev pub IsNext : Standing → Option ℕ → Type 0
IsNext m o = IsNextOf m.calendar m.running o

-- an instant is no later than the next of a machine, where it has one
abbrev pub IsUpToNext : ℕ → Standing → Type 0
IsUpToNext at m = (next : ℕ) → IsNext m (Some next) → at ≤ next

-- no trigger is due before an instant
abbrev pub NoneBefore : ℕ → List (Option Trigger) → Type 0
NoneBefore at xs = (k : ℕ) (x : Trigger) → list_at xs k ≡ Some x → at ≤ x.at

-- wherever this machine stands in a phase of an instant of a run, the tables have no module
abbrev pub LacksModules : Standing → Type 0
LacksModules m =
    (t : Tables) (code : ECode) (es : List Event) (now phase : ℕ) (done rest : List Done) → AreInRange t → Midway t code es now phase m done rest → t.modules ≡ []

-- ---- the same as a function

-- the earlier of an instant and that of a trigger
abbrev pub earlier : Option ℕ → Option Trigger → Option ℕ
earlier x None = x
earlier None (Some y) = Some y.at
earlier (Some x) (Some y) = Some (cond (leb x y.at) x y.at)

abbrev pub earliest : Option ℕ → List (Option Trigger) → Option ℕ
earliest x [] = x
earliest x (y ∷ ys) = earliest (earlier x y) ys

-- the earliest of all triggers
abbrev pub earliest_of : Calendar → Option ℕ
earliest_of c = earliest (earliest (earliest None c.writes) c.switches) c.reads
