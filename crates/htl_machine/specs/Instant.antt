-- How the machine stands as an instant begins, and what it owes once the instant is done.
use Rattle.std.specs.Prelude.{◌≡◌, ◌≤◌, ℕ, ◌-◌, true, List, length}
use Rattle.htl_machine.specs.{Common.Event, Common.hyper, Common.SInstr, Common.Round, Common.Stands, Common.IsInForm, Common.IsTold, Common.Content, Common.Plan, Calls.Seen, StandingList.node_by}
use Rattle.htl_runs.specs.{records.SMachineStands.SMachineAt, records.DueRecords.due_by, lists.RecordEffects.with_records, lines.Programs.schedules_of, records.RecordSteps.AreOf, records.RecordSteps.Records, lists.RunLists.turn_at}
use Rattle.htl_runs.specs.lines.RunRecords.{old_records, plan_records, some_records}

-- before an instant the S machine stands in a list of these instructions, or in none, by an empty one
pub record IsReadyAt (m : Seen) (es : List Event) (now : ℕ) (steps : List SInstr) : Type 0 where
  pub plan : Plan
  pub start : ℕ
  pub place : ℕ
  pub offset : ℕ
  pub same : plan.schedule ≡ steps
  pub past : start ≤ now
  pub few : place ≤ due_by plan start now
  pub was : SMachineAt plan start place offset m.run_state.s_machine
  pub of : AreOf m.object.tables m.run_state.s_machine.jobs
  pub form : m.run_state.s_machine.running ≡ true → IsInForm m.run_state.s_machine steps
  pub short : length steps ≤ 4294967295
  pub stands : Stands m.run_state.s_machine steps
  pub told : IsTold m.run_state.s_machine now
  -- what its records do to the world, and what they show
  pub recorded : (d : Round) (v : Content) → Records m.object.tables m.run_state.s_machine m.run_state.world d v steps now
      → v ≡ with_records m.object.tables (turn_at m.object.tables (schedules_of m.object) es) now m.run_state.world
  pub owed : plan_records plan (node_by m.list) (some_records plan start place (due_by plan start now - place)) ≡ old_records m.object.tables (schedules_of m.object) es (hyper m.object.tables) now
