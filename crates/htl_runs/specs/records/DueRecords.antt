-- The S machine while the records of an instant are left.
use Rattle.std.specs.Prelude.{◌≡◌, ◌≤◌, ℕ, suc, ◌-◌, List}
use Rattle.htl_runs.specs.{Common.SInstr, Common.Round, Common.count_left_before, Common.Plan, Common.list_walk, records.SMachineStands.SMachineAt}
use Rattle.htl_smach.specs.declared.left.Left.{Left}
use Rattle.htl_walk.specs.Walk as walks

-- a record of a walk, with its place, as the S machine tells it
abbrev pub as_told : ℕ × walks.Left → Left
as_told l = record { at = l.1.at; instr = l.0; position = l.1.position; slice = l.1.slice; finished = l.1.finished }

-- the records of the list that are left at an instant or before, as a number
abbrev pub due_by : Plan → ℕ → ℕ → ℕ
due_by p s at = count_left_before (suc at - s) (list_walk p)

-- and once no more is answered, all of them are given
abbrev pub Leaves : Round → Round → List SInstr → ℕ → Type 0
Leaves old now code at = (p : Plan) (s k d : ℕ) → p.schedule ≡ code → s ≤ at → k ≤ due_by p s at → SMachineAt p s k d old → SMachineAt p s (due_by p s at) d now
