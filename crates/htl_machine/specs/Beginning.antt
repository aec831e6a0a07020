-- The beginning of a list.
use Rattle.std.specs.Prelude.{◌≡◌, ◌≤◌, ◌<◌, ◌+◌, ◌-◌, ◌%◌, ℕ, suc, List, [], length, get_or, Option}
use Rattle.htl_machine.specs.{Common.Event, Common.frame_of, Common.starts, Common.Tables, Common.SInstr, Common.Round, Common.Stands, Common.IsInForm, Common.ECode, Common.phase_path, Common.modes_at, declared.numbering.ListAt.ListAt}
use Rattle.htl_runs.specs.{records.SMachineStands.SMachineAt, lists.FirstStand.list_begun, lists.FirstStand.CanStart, instants.Releases.s_machine_replay, records.RecordSteps.AreOf, lists.RunLists.turn_at}
use Rattle.htl_machine.specs.StandingList.{turn_list, next_at}

-- a list may begin behind another: a start of the frame is at the instant, its node has a number, the S machine may begin or go on, and
-- there are as few positions as it takes
pub record CanFollow (t : Tables) (modes : List (Option ℕ)) (takes : List ℕ) (at : ℕ) (last : Option ListAt) (r : Round) : Type 0 where
  pub some : 0 < frame_of t
  pub there : (next_at t modes at last).number < length (starts t)
  pub start : get_or (starts t) (next_at t modes at last).number 0 ≡ at % frame_of t
  pub node : (next_at t modes at last).node ≤ 4294967295
  pub can : CanStart t modes takes at r
  pub few : length (list_begun t modes takes at r).jobs ≤ 128

-- what the list of the events that begins at an instant is for the machine: it comes behind the one that stood, its jobs are of concrete
-- invocations, its instructions are those of its node, in form, and the releases of the instant are told
pub record IsToBegin (t : Tables) (code : ECode) (schedules : List (List SInstr)) (es : List Event) (at : ℕ) (takes : List ℕ) (last : Option ListAt) (r : Round) : Type 0 where
  pub follows : CanFollow t (modes_at t es at) takes at last r
  pub next : turn_list (turn_at t schedules es at) ≡ next_at t (modes_at t es at) at last
  pub known : (turn_at t schedules es at).node < length schedules
  pub code_is : (turn_at t schedules es at).plan.schedule ≡ get_or schedules (turn_at t schedules es at).node []
  pub of : AreOf t (turn_at t schedules es at).plan.jobs
  pub form : (d : Round) → d.jobs ≡ (turn_at t schedules es at).plan.jobs → IsInForm d (turn_at t schedules es at).plan.schedule
  pub short : length (turn_at t schedules es at).plan.schedule ≤ 4294967295
  pub time : (turn_at t schedules es at).frame + (turn_at t schedules es at).plan.first.time ≡ at
  pub begins : SMachineAt (turn_at t schedules es at).plan (turn_at t schedules es at).frame 0 (at - (turn_at t schedules es at).frame) (list_begun t (modes_at t es at) takes at r)
  pub told : Stands (s_machine_replay code (phase_path t code es at 3) (list_begun t (modes_at t es at) takes at r)) (turn_at t schedules es at).plan.schedule
      → SMachineAt (turn_at t schedules es at).plan (turn_at t schedules es at).frame 0 (suc at - (turn_at t schedules es at).frame) (s_machine_replay code (phase_path t code es at 3) (list_begun t (modes_at t es at) takes at r))
