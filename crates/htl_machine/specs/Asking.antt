-- What the parts of an instant ask for, of a machine that stands before it.
use Rattle.std.specs.Prelude.{◌≡◌, ◌≤◌, ◌<◌, ℕ, List, [], length, ℤ, Option, None}
use Rattle.htl_machine.specs.Common.{Event, KeptApart, Tables, SInstr, ECode, Round, Standing, list_at, Content, Onward, phase_path, StandsSafely, IsShaped}
use Rattle.htl_model.specs.{Frames.frame_limit, FunctionTypes.FitPlaces, Meaning.state, Meaning.before, Meaning.mode_in_state}
use Rattle.htl_ecode.specs.Spelling.{Spells}
use Rattle.htl_runs.specs.{values.PhaseEffects.replay, lists.ListLengths.instrs_of}
use Rattle.htl_machine.specs.{Beginning.IsToBegin, Doing.IsStarting, Noting.MarksChanges, declared.numbering.ListAt.ListAt, declared.works.Machines.Machines, declared.works.Program.Program}

-- of the object
pub record IsSound (t : Tables) (code : ECode) : Type 0 where
  pub kept : KeptApart t 16
  pub form : KeptApart t 12
  pub limit : frame_limit t ≡ None
  pub spells : Spells t code
  pub instrs : length code.instrs ≤ 4294967295
  pub places : FitPlaces t

-- the values and the modes that were noted are those before the instant
pub record AreBefore (t : Tables) (es : List Event) (at : ℕ) (values : List ℤ) (modes : List (Option ℕ)) : Type 0 where
  pub values_are : 0 < at → values ≡ (before t es at).values
  pub modes_are : (k : ℕ) → k < length t.modules → list_at modes k ≡ mode_in_state (before t es at) k

-- of what was noted before it
pub record IsNoted (t : Tables) (es : List Event) (at : ℕ) (values : List ℤ) (modes : List (Option ℕ)) : Type 0 where
  pub few : length values ≡ length t.comms
  pub modules : length modes ≡ length t.modules
  pub noted : AreBefore t es at values modes

-- of the machines, whatever they follow: the world and the triggers fit the tables; of each item something was noted, and what is another now is
-- marked
pub record AreFitted (t : Tables) (code : ECode) (m : Machines) : Type 0 where
  pub shaped : IsShaped t m.works.world
  pub safe : StandsSafely t code m.emach
  pub few : length m.noted.values ≡ length t.comms
  pub modules : length m.noted.modes ≡ length t.modules
  pub marked : MarksChanges m.noted m.works.world.values m.emach.calendar.modes

-- ---- of the events

-- the reads come next: the switches are done, and once the reads are too the values are those of the instant
pub record IsToRead (t : Tables) (code : ECode) (es : List Event) (at : ℕ) (m : Standing) (w : Content) (values : List ℤ) (modes : List (Option ℕ)) : Type 0 where
  pub switches : Onward t code es at 2 m (phase_path t code es at 2) [] None
  pub noted : AreBefore t es at values modes
  pub reads : (replay t code (phase_path t code es at 3) w).values ≡ (state t es at).values

-- the switches come next: the writes and the sensors are done, so that the values are those of the instant, and the reads keep them
pub record IsToClose (t : Tables) (code : ECode) (es : List Event) (at : ℕ) (m : Standing) (w : Content) (values : List ℤ) (modes : List (Option ℕ)) : Type 0 where
  pub writes : Onward t code es at 1 m (phase_path t code es at 1) [] None
  pub now : w.values ≡ (state t es at).values
  pub noted : AreBefore t es at values modes
  pub reads : (replay t code (phase_path t code es at 3) (replay t code (phase_path t code es at 2) w)).values ≡ (state t es at).values

-- the same, where a list begins behind another
pub record IsToCloseAndBegin (t : Tables) (code : ECode) (schedules : List (List SInstr)) (es : List Event) (at : ℕ) (takes : List ℕ) (last : Option ListAt) (r : Round) (m : Standing) (w : Content) (values : List ℤ) (modes : List (Option ℕ)) : Type 0 where
  pub closes : IsToClose t code es at m w values modes
  pub begins : IsToBegin t code schedules es at takes last r

-- ---- of the machines, as an instant works on them

-- a phase begins
abbrev pub AreStarting : Program → List Event → ℕ → ℕ → Machines → Type 0
AreStarting p es at phase m = IsStarting p.tables.now p.code.now es at phase m.emach m.works.world

-- the reads come next
abbrev pub AreToRead : Program → List Event → ℕ → Machines → Type 0
AreToRead p es at m = IsToRead p.tables.now p.code.now es at m.emach m.works.world m.noted.values m.noted.modes

-- the switches come next
abbrev pub AreToClose : Program → List Event → ℕ → Machines → Type 0
AreToClose p es at m = IsToClose p.tables.now p.code.now es at m.emach m.works.world m.noted.values m.noted.modes

-- the same, where a list begins behind the last one
abbrev pub AreToCloseAndBegin : Program → List Event → ℕ → List ℕ → Option ListAt → Machines → Type 0
AreToCloseAndBegin p es at takes last m =
    IsToCloseAndBegin p.tables.now p.code.now (instrs_of p.schedules.now) es at takes last m.works.s_machine m.emach m.works.world m.noted.values m.noted.modes
