-- What the next instruction of a list does.
use Rattle.std.specs.Prelude.{◌≡◌, ◌≤◌, ◌<◌, true, List, length, slice_get, IfSome, Some}
use Rattle.htl_walk.specs.{declared.schedule.SInstr.SInstr, Walk.next_point, Walk.left_by}
use Rattle.htl_smach.specs.{declared.step.Step.Step, Rounds.Round, Steps.told_of, Steps.point_of}

-- x is what the next instruction does, of a list that isn't over
pub record IsUpcoming (r : Round) (s : List SInstr) (x : Step) : Type 0 where
  pub running : r.running ≡ true
  pub within : r.place < length s
  pub instr : SInstr
  pub at : slice_get s r.place ≡ Some instr
  pub told : told_of x ≡ left_by r.jobs instr r.point (next_point r.jobs instr r.point)
  pub point : point_of r.point.left x ≡ next_point r.jobs instr r.point
  pub known : IfSome x.position (λ p. p < length r.point.left)
  pub bound : x.time ≤ 4294967295
  pub slice_bound : IfSome x.slice (λ z. (z.0 ≤ 4294967295) × (z.1 ≤ 4294967295))
