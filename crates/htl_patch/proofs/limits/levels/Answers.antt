use Rattle.htl_patch.proofs.{Words.arith, Words.level, Words.module_mode_tables, LevelLaws.greatest_next}
use Rattle.htl_patch.proofs.limits.levels.Goals as goal

pub loop-unit-preserved : goal.loop-unit-preserved
loop-unit-preserved c = (
  omega (arith, c.loop-unit.invariant.0, c.level.ensures.most, c.max-most.ensures),
  greatest_next (level c.args.steps (module_mode_tables c.args.modules.now c.args.modes.now)) c.loop-unit.unit c.loop-unit.most c.level.result c.max-most.result c.loop-unit.invariant.1 c.level.ensures.value c.max-most.ensures,
)
