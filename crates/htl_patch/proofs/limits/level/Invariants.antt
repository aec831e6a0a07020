use Rattle.std.proofs.Common.{◌≡◌, ◌≤◌, ◌+◌, ◌-◌}
use Rattle.htl_patch.proofs.Words.{level, module_mode_tables}
use Rattle.htl_patch.proofs.limits.level.Given as goal

abbrev pub invariant-loop-left : goal.invariant-loop-left
invariant-loop-left l = (l.left ≤ l.steps) × ((l.steps - l.left) + level l.left (module_mode_tables l.modules l.modes) l.here ≡ level l.steps (module_mode_tables l.modules l.modes) l.unit)

abbrev pub decreases-loop-left : goal.decreases-loop-left
decreases-loop-left l = l.left
