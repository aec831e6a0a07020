-- What each part of an instant is given, writes and leaves: for every list of events by whose meaning it begins, and whatever the events are.
use Rattle.std.specs.Prelude.{◌≡◌, ◌≤◌, ◌++◌, ◌-◌, ℕ, suc, true, false, List, [], length, Option, Some, None, ℤ, OnOk}
use Rattle.htl_machine.specs.Common.{Result, Puts, Event, KeptApart, HasValues, IsShaped, IsInForm, IsTold, Job, Round, SInstr, Stands, Onward, phase_path}
use Rattle.htl_model.specs.FunctionTypes.{FitPlaces}
use Rattle.htl_ecode.specs.{Paths.Done, Phases.number_of, declared.phase.Phase.Phase}
use Rattle.htl_emach.specs.{Following.FollowsCode, Shapes.SensorsStay}
use Rattle.htl_runs.specs.{values.PhaseEffects.replay, records.DueRecords.due_by, records.RecordSteps.AreOf, records.RecordSteps.Records, records.SMachineStands.SMachineAt, lists.ListLengths.instrs_of, lists.RunLists.turn_at}
use Rattle.htl_runs.specs.instants.Releases.{s_machine_replay}
use Rattle.htl_machine.specs.{Asking.IsSound, Asking.AreFitted, Asking.AreStarting, Asking.AreToRead, Asking.AreToClose, Asking.AreToCloseAndBegin, Counts.with_instrs, Counts.with_records, Doing.path_lines, Doing.told_in_phase}
use Rattle.htl_machine.specs.{Noting.KeepsNoted, Numbering.IsPath, Opening.Opens, Opening.AreCounted, Opening.IsOpened, Opening.IsOpenedIdle, Opening.reading_text, Opening.closing_text, Opening.first_records, Opening.beginning_text}
use Rattle.htl_machine.specs.{Printing.Prints, Printing.Counted, StandingList.turn_list, Waiting.MarksWaiting, declared.numbering.ListAt.ListAt, declared.path.Path.Path, declared.sensors.Sensors.Sensors, declared.works.Machines.Machines}
use Rattle.htl_machine.specs.{declared.works.Program.Program, declared.works.StandingList.StandingList, declared.works.Works.Works}

-- the addresses of a phase
abbrev pub path_in : Program → List Event → ℕ → ℕ → List Done
path_in p es at phase = phase_path p.tables.now p.code.now es at phase

-- ---- what a part is given

-- the object is sound, the instant in range, world and triggers fit the tables, and these are the jobs of the S machine
pub record PartGiven (p : Program) (own : List Job) (now : ℕ) (m : Machines) : Type 0 where
  pub sound : IsSound p.tables.now p.code.now
  pub at : now ≤ 1000000000
  pub fitted : AreFitted p.tables.now p.code.now m
  pub jobs : m.works.s_machine.jobs ≡ own

-- ---- a phase

-- its lines are written
abbrev pub PhaseText : {T E : Type 0} → Program → ℕ → Phase → Machines → Option (List ℕ) → Option (List ℕ) → ℕ → ℕ → Result T E → Type 0
PhaseText p at phase old w0 w f0 f result =
    (es : List Event) → AreStarting p es at (number_of phase) old → Puts w0 w f0 f (path_lines p.tables.now p.code.now p.show at (path_in p es at (number_of phase))) result

-- each of its instructions is counted, does to the world what it does, and in the read phase tells its release; then all of them are done
pub record PhaseDone (p : Program) (es : List Event) (at phase : ℕ) (old new : Machines) : Type 0 where
  pub counts : new.works.tally ≡ with_instrs (length (path_in p es at phase)) old.works.tally
  pub world : new.works.world ≡ replay p.tables.now p.code.now (path_in p es at phase) old.works.world
  pub s_machine : new.works.s_machine ≡ told_in_phase phase p.code.now (path_in p es at phase) old.works.s_machine
  pub ends : Onward p.tables.now p.code.now es at phase new.emach (path_in p es at phase) [] None

abbrev pub DoesPhase : {T E : Type 0} → Program → ℕ → Phase → Machines → Machines → Result T E → Type 0
DoesPhase p at phase old new result = (es : List Event) → AreStarting p es at (number_of phase) old → OnOk result (PhaseDone p es at (number_of phase) old new)

-- ---- what parts keep

-- world and triggers fit the tables, no sensor changes, and the S machine stands in its list with the same jobs
pub record PartKeeps (p : Program) (old new : Machines) : Type 0 where
  pub fitted : AreFitted p.tables.now p.code.now new
  pub sensors : SensorsStay p.tables.now old.works.world.values new.works.world.values
  pub jobs : new.works.s_machine.jobs ≡ old.works.s_machine.jobs
  pub stands : (s : List SInstr) → Stands old.works.s_machine s → Stands new.works.s_machine s

-- a phase keeps what was noted too, and switches keep all values
pub record PhaseKeeps (p : Program) (phase : ℕ) (old new : Machines) : Type 0 where
  pub part : PartKeeps p old new
  pub noted : KeepsNoted old.noted new.noted
  pub values : phase ≡ 2 → new.works.world.values ≡ old.works.world.values

-- ---- the reads, and the last part of an instant at which no list begins

-- the lines of the reads and of what changed are written
abbrev pub ReadsText : {T E : Type 0} → Program → ℕ → Machines → Option (List ℕ) → Option (List ℕ) → ℕ → ℕ → Result T E → Type 0
ReadsText p at old w0 w f0 f result = (es : List Event) → AreToRead p es at old → Puts w0 w f0 f (reading_text p.tables.now p.code.now es p.show at) result

-- those of the switches before them
abbrev pub ClosesText : {T E : Type 0} → Program → ℕ → Machines → Option (List ℕ) → Option (List ℕ) → ℕ → ℕ → Result T E → Type 0
ClosesText p at old w0 w f0 f result = (es : List Event) → AreToClose p es at old → Puts w0 w f0 f (closing_text p.tables.now p.code.now es p.show at) result

-- switches and then reads are counted and done, and the releases told
pub record Closed (p : Program) (es : List Event) (at : ℕ) (old new : Machines) : Type 0 where
  pub counts : new.works.tally ≡ with_instrs (length (path_in p es at 3)) (with_instrs (length (path_in p es at 2)) old.works.tally)
  pub world : new.works.world ≡ replay p.tables.now p.code.now (path_in p es at 3) (replay p.tables.now p.code.now (path_in p es at 2) old.works.world)
  pub s_machine : new.works.s_machine ≡ s_machine_replay p.code.now (path_in p es at 3) old.works.s_machine
  pub ends : Onward p.tables.now p.code.now es at 3 new.emach (path_in p es at 3) [] None

-- ---- the last part of an instant at which a list begins

-- beside what other parts are given, the path stands, and the list before is over
pub record BeginGiven (p : Program) (way : Path) (now : ℕ) (m : Machines) : Type 0 where
  pub sound : IsSound p.tables.now p.code.now
  pub at : now ≤ 1000000000
  pub fitted : AreFitted p.tables.now p.code.now m
  pub path : IsPath p.tables.now way m.works.s_machine.jobs
  pub over : m.works.s_machine.running ≡ false

-- the lines of such a part are written, and then those of the first records of the list
abbrev pub BeginsText : {T E : Type 0} → Program → List ℕ → Path → ℕ → Machines → Option (List ℕ) → Option (List ℕ) → ℕ → ℕ → Result T E → Type 0
BeginsText p takes path at old w0 w f0 f result =
    (es : List Event) → AreToCloseAndBegin p es at takes path.list old
    → Puts w0 w f0 f (closing_text p.tables.now p.code.now es p.show at ++ beginning_text p.tables.now (instrs_of p.schedules.now) es p.show at) result

-- switches, reads and the first records are counted and done; the list of the events stands, and the S machine in it behind these records
pub record Begun (p : Program) (es : List Event) (at : ℕ) (old new : Machines) (last : Option ListAt) : Type 0 where
  pub counts : new.works.tally ≡ with_records (first_records p.tables.now (instrs_of p.schedules.now) es at) (with_instrs (length (path_in p es at 3)) (with_instrs (length (path_in p es at 2)) old.works.tally))
  pub world : new.works.world ≡ replay p.tables.now p.code.now (path_in p es at 3) (replay p.tables.now p.code.now (path_in p es at 2) old.works.world)
  pub s_machine : let u = turn_at p.tables.now (instrs_of p.schedules.now) es at in SMachineAt u.plan u.frame (due_by u.plan u.frame at) (suc at - u.frame) new.works.s_machine
  pub list : last ≡ Some (turn_list (turn_at p.tables.now (instrs_of p.schedules.now) es at))
  pub ends : Onward p.tables.now p.code.now es at 3 new.emach (path_in p es at 3) [] None

abbrev pub Begins : {T E : Type 0} → Program → List ℕ → ℕ → Path → Path → Machines → Machines → Result T E → Type 0
Begins p takes at path0 path old new result = (es : List Event) → AreToCloseAndBegin p es at takes path0.list old → OnOk result (Begun p es at old new path.list)

-- world and triggers fit the tables, no sensor changes, and the path stands
pub record BeginKeeps (p : Program) (way : Path) (old new : Machines) : Type 0 where
  pub fitted : AreFitted p.tables.now p.code.now new
  pub sensors : SensorsStay p.tables.now old.works.world.values new.works.world.values
  pub path : IsPath p.tables.now way new.works.s_machine.jobs

-- of the path this stays, even where a line fails
pub record PathKeeps (old new : Path) : Type 0 where
  pub few : new.count ≤ 128
  pub idle : new.idle ≡ old.idle

-- ---- the records of a list

-- the world fits the tables, and these are the jobs of the S machine
pub record WorksGiven (p : Program) (own : List Job) (w : Works) : Type 0 where
  pub kept : KeptApart p.tables.now 12
  pub places : FitPlaces p.tables.now
  pub shaped : IsShaped p.tables.now w.world
  pub jobs : w.s_machine.jobs ≡ own

-- the jobs are of concrete invocations, and the S machine stands in the list, which is in form and has few instructions; each release before is told
pub record ListGiven (p : Program) (list : StandingList) (at : ℕ) (r : Round) : Type 0 where
  pub of : AreOf p.tables.now list.jobs.now
  pub form : r.running ≡ true → IsInForm r list.schedule.now.instrs
  pub slots : length list.schedule.now.instrs ≤ 4294967295
  pub stands : Stands r list.schedule.now.instrs
  pub told : IsTold r at

-- the lines of the records that are due are written, from wherever the S machine stood; none where no list runs
pub record ListText {T E : Type 0} (p : Program) (list : StandingList) (at : ℕ) (old : Works) (w0 w : Option (List ℕ)) (f0 f : ℕ) (result : Result T E) : Type 0 where
  pub running : Prints p.tables.now p.show list.node old.s_machine list.schedule.now.instrs at w0 w f0 f result
  pub idle : old.s_machine.running ≡ false → Puts w0 w f0 f [] result

-- they are counted, and do what finished jobs do; where no list runs nothing changes
pub record RecordsLeft (p : Program) (list : StandingList) (at : ℕ) (old new : Works) : Type 0 where
  pub counts : Counted old.s_machine list.schedule.now.instrs at old.tally new.tally
  pub records : Records p.tables.now old.s_machine old.world new.s_machine new.world list.schedule.now.instrs at
  pub idle : old.s_machine.running ≡ false → (new.s_machine ≡ old.s_machine) × (new.world ≡ old.world) × (new.tally ≡ old.tally)
  pub jobs : new.s_machine.jobs ≡ old.s_machine.jobs
  pub values : new.world.values ≡ old.world.values
  pub shaped : IsShaped p.tables.now new.world
  pub stands : Stands new.s_machine list.schedule.now.instrs

-- ---- the first part of an instant

-- sensors show values of their types; what was noted is what the world has, and a sensor that is shown another value waits
pub record SensorsGiven (p : Program) (sensors : Sensors) (m : Machines) : Type 0 where
  pub shows : HasValues p.tables.now sensors.shows
  pub values : HasValues p.tables.now m.noted.values
  pub before : m.noted.values ≡ m.works.world.values
  pub waiting : MarksWaiting p.tables.now sensors m.works.world.values

pub record OpenGiven (p : Program) (standing : StandingList) (shown : Sensors) (at : ℕ) (m : Machines) : Type 0 where
  pub part : PartGiven p standing.jobs.now at m
  pub list : ListGiven p standing at m.works.s_machine
  pub sensors : SensorsGiven p shown m

-- the lines of the records that are due, from wherever the S machine stood, and of the writes; of the writes alone where no list runs
pub record OpeningText {T E : Type 0} (p : Program) (es : List Event) (list : StandingList) (at : ℕ) (old : Machines) (w0 w : Option (List ℕ)) (f0 f : ℕ) (result : Result T E) : Type 0 where
  pub running : Opens p.tables.now p.code.now es p.show list.node old.works.s_machine list.schedule.now.instrs at w0 w f0 f result
  pub idle : old.works.s_machine.running ≡ false → Puts w0 w f0 f (path_lines p.tables.now p.code.now p.show at (path_in p es at 1)) result

abbrev pub OpensText : {T E : Type 0} → Program → StandingList → ℕ → Machines → Option (List ℕ) → Option (List ℕ) → ℕ → ℕ → Result T E → Type 0
OpensText p list at old w0 w f0 f result = (es : List Event) → FollowsCode p.tables.now p.code.now es at old.emach → OpeningText p es list at old w0 w f0 f result

-- records and writes are counted and done, and the sensors are shown
pub record Opened (p : Program) (es : List Event) (list : StandingList) (shows : List ℤ) (at : ℕ) (old new : Machines) : Type 0 where
  pub counts : AreCounted p.tables.now p.code.now es old.works.s_machine list.schedule.now.instrs at old.works.tally new.works.tally
  pub world : IsOpened p.tables.now p.code.now es at list.schedule.now.instrs shows old.noted.values old.works.s_machine old.works.world new.works.s_machine new.works.world
  pub idle : old.works.s_machine.running ≡ false → IsOpenedIdle p.tables.now p.code.now es at shows old.noted.values old.works.s_machine old.works.world old.works.tally new.works.s_machine new.works.world new.works.tally
  pub ends : Onward p.tables.now p.code.now es at 1 new.emach (path_in p es at 1) [] None

abbrev pub OpensFor : {T E : Type 0} → Program → StandingList → Sensors → ℕ → Machines → Machines → Result T E → Type 0
OpensFor p list sensors at old new result = (es : List Event) → FollowsCode p.tables.now p.code.now es at old.emach → OnOk result (Opened p es list sensors.shows at old new)

-- what waits is marked, world and triggers fit the tables, what was noted stays, and the S machine stands in the list with the same jobs
pub record OpenKeeps (p : Program) (list : StandingList) (sensors : Sensors) (old new : Machines) : Type 0 where
  pub waiting : MarksWaiting p.tables.now sensors new.works.world.values
  pub fitted : AreFitted p.tables.now p.code.now new
  pub noted : KeepsNoted old.noted new.noted
  pub jobs : new.works.s_machine.jobs ≡ old.works.s_machine.jobs
  pub stands : Stands new.works.s_machine list.schedule.now.instrs
