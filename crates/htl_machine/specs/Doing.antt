-- The instructions of a phase while they are done: their lines, their number, and the releases that the S machine is told.
use Rattle.std.specs.Prelude.{◌≡◌, ℕ, cond, eqb, List, [], length, Option, None}
use Rattle.htl_machine.specs.Common.{append_known, Event, joined, Tables, SInstr, Round, ECode, EInstr, Content, Standing, StandsSafely, state, Shown, instr_line, shows_code}
use Rattle.htl_smach.specs.Rounds as rounds
use Rattle.htl_ecode.specs.Paths as paths
use Rattle.htl_emach.specs.{Pending.Between, Shapes.IsShaped, Shapes.SensorsStay}
use Rattle.htl_runs.specs.{values.PhaseEffects.IsRunning, instants.Releases.s_machine_replay, lines.Lines.e_line}
use Rattle.htl_machine.specs.{declared.tally.Tally.Tally, Counts.with_instrs, Noting.MarksChanges, Noting.KeepsNoted, declared.noted.Noted.Noted}

-- the line of an instruction
abbrev pub instr_lines : Tables → Shown → ℕ → ℕ → EInstr → List ℕ
instr_lines t show at address i = cond (shows_code show) (instr_line t at address i) []

-- the lines of these addresses
abbrev pub path_lines : Tables → ECode → Shown → ℕ → List paths.Done → List ℕ
path_lines t code show at ds = cond (shows_code show) (joined (e_line t code at) ds) []

-- the read phase alone tells releases
abbrev pub told_in_phase : ℕ → ECode → List paths.Done → Round → Round
told_in_phase phase code ds r = cond (eqb phase 3) (s_machine_replay code ds r) r

pub record IsDoing (t : Tables) (code : ECode) (es : List Event) (at phase : ℕ) (show : Shown) (m : Standing) (w first : Content) (r0 r : Round) (w0 w1 : Option (List ℕ)) (f0 f : ℕ) (n0 n : Tally) : Type 0 where
  pub running : IsRunning t code es at phase m w first
  pub kept : f ≡ f0
  pub text : w1 ≡ append_known w0 (path_lines t code show at running.done)
  pub count : n ≡ with_instrs (length running.done) n0
  pub s_machine : r ≡ told_in_phase phase code running.done r0
  pub stands : (s : List SInstr) → rounds.Stands r0 s → rounds.Stands r s

-- a phase begins, by the meaning of these events: no block runs, the calendar is that before its blocks, and in the switch phase the values are
-- those of the instant
pub record IsStarting (t : Tables) (code : ECode) (es : List Event) (at phase : ℕ) (m : Standing) (w : Content) : Type 0 where
  pub values : phase ≡ 2 → w.values ≡ (state t es at).values
  pub idle : m.running ≡ None
  pub calendar : Between t code es at phase m.calendar 0

-- the phase is being done, for every list of events by whose meaning it began
pub record IsDoingAll (t : Tables) (code : ECode) (at phase : ℕ) (show : Shown) (m0 m : Standing) (w first : Content) (noted0 noted : Noted) (r0 r : Round) (w0 w1 : Option (List ℕ)) (f0 f : ℕ) (n0 n : Tally) : Type 0 where
  pub doing : (es : List Event) → IsStarting t code es at phase m0 first → IsDoing t code es at phase show m w first r0 r w0 w1 f0 f n0 n
  pub safe : StandsSafely t code m
  pub shaped : IsShaped t w
  pub values : phase ≡ 2 → w.values ≡ first.values
  pub stands : (s : List SInstr) → rounds.Stands r0 s → rounds.Stands r s
  pub jobs : r.jobs ≡ r0.jobs
  -- what the instructions changed is marked; they change no sensor
  pub marked : MarksChanges noted w.values m.calendar.modes
  pub noted_stays : KeepsNoted noted0 noted
  pub sensors : SensorsStay t first.values w.values
