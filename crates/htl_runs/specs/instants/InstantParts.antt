-- The parts of an instant: what both machines do to the world, one after the other.
use Rattle.std.specs.Prelude.{◌≡◌, ℕ, List, [], None}
use Rattle.htl_runs.specs.{Common.Event, Common.Tables, Common.sense, Common.SInstr, Common.ECode, Common.Standing, Common.StandsSafely, Common.IsShaped, Common.Onward, Common.phase_path, Common.Content, values.PhaseEffects.replay}
use Rattle.htl_runs.specs.{values.InstantEffects.with_sensors, lists.RecordEffects.with_records, lists.RunLists.turn_at}

-- the records of the list before, each phase, and the sensors between
pub record Passed (t : Tables) (code : ECode) (schedules : List (List SInstr)) (es : List Event) (now : ℕ) (w0 w5 : Content) (e : Standing) : Type 0 where
  pub recorded : Content
  pub wrote : Content
  pub sensed : Content
  pub switched : Content
  pub records : recorded ≡ with_records t (turn_at t schedules es) now w0
  pub writes : wrote ≡ replay t code (phase_path t code es now 1) recorded
  pub sensors : sensed ≡ with_sensors t (sense t es) now wrote
  pub switches : switched ≡ replay t code (phase_path t code es now 2) sensed
  pub reads : w5 ≡ replay t code (phase_path t code es now 3) switched
  pub ends : Onward t code es now 3 e (phase_path t code es now 3) [] None
  pub safe : StandsSafely t code e
  pub shaped : IsShaped t w5
