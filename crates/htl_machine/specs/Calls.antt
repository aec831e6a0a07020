-- What contracts see of a machine, what it follows, and what its calls write.
use Rattle.std.specs.Prelude.{◌≡◌, ℕ, zero, suc, ◌+◌, ◌-◌, ◌≤◌, false, true, List, map, slice_get, Option, Some, None, ℤ}
use Rattle.htl_machine.specs.Common.{Event, up_to, hyper, Comm, Inv, Tables, is_concrete, task_worst, state, SInstr, Round, no_round, Standing, Content, Object, Shown}
use Rattle.htl_model.specs.Ranges.{FitsType}
use Rattle.htl_machine.specs.{declared.numbering.ListAt.ListAt, StandingList.instrs_by, StandingList.turn_list}
use Rattle.htl_runs.specs.{lines.Programs.schedules_of, lines.Programs.lines_of, lists.StandingLists.Turn, lists.RecordEffects.finished_before, lists.RunLists.turn_at, lists.StandingLists.SMachineFollows}
use Rattle.htl_runs.specs.{events.ToldSoFar.IsKept, events.ToldSoFar.IsValued, events.ToldSoFar.RunState, lines.Lines.e_done, lines.Lines.jobs_done, lines.Lines.s_done}

-- what contracts see of a machine
pub record Seen : Type 0 where
  pub object : Object
  pub show : Shown
  -- what it keeps of the calls, its world, and the S machine
  pub run_state : RunState
  -- the E machine
  pub standing : Standing
  -- the list of the processor that stands: its node, and its number in the frame; none before the first
  pub list : Option ListAt
  -- the jobs done, the E instructions and the S instructions so far
  pub jobs : ℕ
  pub e : ℕ
  pub s : ℕ

-- the instructions of the list that stands; where there is none, these
abbrev pub schedule_by : Object → List SInstr → Option ListAt → List SInstr
schedule_by o idle list = instrs_by o.schedules idle list

-- before instant 0, with these values and buffers and this E machine
abbrev pub first_seen : Object → Shown → Content → Standing → Seen
first_seen o show w m =
    record {
      object = o;
      show = show;
      run_state =
          record {
            spent = false;
            reading = 0;
            shows = w.values;
            takes = map (λ (x : Inv). task_worst o.tables x.task) o.tables.invs;
            world = w;
            s_machine = no_round;
          };
      standing = m;
      list = None;
      jobs = 0;
      e = 0;
      s = 0;
    }

-- ---- what a machine follows

-- it is the list that began last before an instant
abbrev pub GoesBy : (ℕ → Turn) → Option ℕ → ℕ → Option ListAt → Type 0
GoesBy turn None now list = list ≡ None
GoesBy turn (Some period) zero list = list ≡ None
GoesBy turn (Some period) (suc n) list = list ≡ Some (turn_list (turn n))

-- the list of the processor that began last before an instant
pub record IsRecorded (t : Tables) (schedules : List (List SInstr)) (es : List Event) (now : ℕ) (r : Round) (list : Option ListAt) (jobs s : ℕ) : Type 0 where
  pub s_machine : SMachineFollows (turn_at t schedules es) (hyper t) now r
  pub goes : GoesBy (turn_at t schedules es) (hyper t) now list
  pub jobs_are : jobs ≡ jobs_done t schedules es now
  pub s_are : s ≡ s_done t schedules es now

-- both halves before an instant
pub record IsBefore (m : Seen) (es : List Event) (now : ℕ) : Type 0 where
  pub values :
      IsValued m.object.tables m.object.ecode es now
      (finished_before (turn_at m.object.tables (schedules_of m.object) es) now) m.run_state.world m.standing m.e
  pub records : IsRecorded m.object.tables (schedules_of m.object) es now m.run_state.s_machine m.list m.jobs m.s

-- before an instant that is no earlier than the last reading
pub record IsUpTo (m : Seen) (es : List Event) (now : ℕ) : Type 0 where
  pub kept : IsKept m.object.tables es m.run_state
  pub before : IsBefore m es now

-- a machine follows a list of events: all instants before the last reading are done
pub record Follows (m : Seen) (es : List Event) : Type 0 where
  pub kept : IsKept m.object.tables es m.run_state
  pub before : IsBefore m es m.run_state.reading

-- ---- what calls ask for

-- a value of its type for a sensor
pub record IsSensorValue (t : Tables) (c : ℕ) (x : ℤ) : Type 0 where
  pub comm : Comm
  pub known : slice_get t.comms c ≡ Some comm
  pub sensor : comm.sensor ≡ true
  pub fits : FitsType comm.ty x

-- a length of a concrete invocation, from one tick to its worst case
pub record IsLength (t : Tables) (i n : ℕ) : Type 0 where
  pub inv : Inv
  pub known : slice_get t.invs i ≡ Some inv
  pub concrete : is_concrete t inv ≡ true
  pub some : 1 ≤ n
  pub worst : n ≤ task_worst t inv.task

-- ---- what calls write and leave

-- the text of the instants from `from` up to before `to`
abbrev pub text_between : Object → List Event → Shown → ℕ → ℕ → List ℕ
text_between o es show from to = up_to (λ n. lines_of o es show (from + n)) (to - from)

-- no call changes what runs and what is shown
pub record IsSameRun (old new : Seen) : Type 0 where
  pub object : new.object ≡ old.object
  pub show : new.show ≡ old.show

-- all instants up to `to` are done, and nothing more can be: the values are those of the meaning at `to`, the numbers those of the run
pub record IsFinished (m : Seen) (es : List Event) (to : ℕ) : Type 0 where
  pub spent : m.run_state.spent ≡ true
  pub reading : m.run_state.reading ≡ to
  pub values : m.run_state.world.values ≡ (state m.object.tables es to).values
  pub jobs : m.jobs ≡ jobs_done m.object.tables (schedules_of m.object) es (suc to)
  pub e : m.e ≡ e_done m.object.tables m.object.ecode es (suc to)
  pub s : m.s ≡ s_done m.object.tables (schedules_of m.object) es (suc to)
