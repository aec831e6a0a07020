use Rattle.std.proofs.Common.{◌≡◌, ◌≤◌}
use Rattle.htl_patch.proofs.Words.{list_to, greatest, level, module_mode_tables}
use Rattle.htl_patch.proofs.limits.levels.Given as goal

abbrev pub invariant-loop-unit : goal.invariant-loop-unit
invariant-loop-unit l = (l.most ≤ 17) × (l.most ≡ greatest 0 (list_to (level l.steps (module_mode_tables l.modules l.modes)) l.unit))
