-- What a machine's fields keep whatever it follows: a place for each item of the tables, the jobs of the S machine, marks of
-- what is another than was noted, and of the sensors that wait, and an instant before which nothing is due.
use Rattle.std.specs.Prelude.{◌≡◌, ◌≤◌, ℕ, Bool, false, List, [], length}
use Rattle.htl_machine.specs.{Common.Object, Common.IsAccepted, Common.Shown, Calls.Seen, Noting.MarksChanges, Numbering.IsPath, Quiet.AreQuiet, Waiting.MarksWaiting, declared.noted.Noted.Noted, declared.path.Path.Path}
use Rattle.htl_machine.specs.{declared.sensors.Sensors.Sensors, declared.works.Machines.Machines}

-- what contracts see of a machine with these fields
abbrev pub seen_by : Object → Shown → Bool → ℕ → Sensors → List ℕ → Machines → Path → Seen
seen_by o show spent reading sensors takes machines path =
    record {
      object = o;
      show = show;
      run_state = record { spent = spent; reading = reading; shows = sensors.shows; takes = takes; world = machines.works.world; s_machine = machines.works.s_machine };
      standing = machines.emach;
      list = path.list;
      jobs = machines.works.tally.jobs;
      e = machines.works.tally.e;
      s = machines.works.tally.s;
    }

pub record IsFitted (m : Seen) (sensors : Sensors) (noted : Noted) (path : Path) (due : ℕ) : Type 0 where
  pub accepted : IsAccepted m.object
  pub all_shows : length sensors.shows ≡ length m.object.tables.comms
  pub all_takes : length m.run_state.takes ≡ length m.object.tables.invs
  pub few : path.count ≤ 128
  pub stands : m.run_state.spent ≡ false → IsPath m.object.tables path m.run_state.s_machine.jobs
  -- outside the marks, what was noted is what the world and the E machine have, and a sensor has what it is shown
  pub marked : m.run_state.spent ≡ false → MarksChanges noted m.run_state.world.values m.standing.calendar.modes
  pub waiting : m.run_state.spent ≡ false → MarksWaiting m.object.tables sensors m.run_state.world.values
  pub empty : path.idle.instrs ≡ []
  pub quiet : m.run_state.spent ≡ false → AreQuiet m m.run_state.reading due
