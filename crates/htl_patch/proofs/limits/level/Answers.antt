use Rattle.std.proofs.Common.{◌≡◌, ◌<◌, arith}
use Rattle.htl_patch.proofs.{Words.nat_tests, Words.level, Words.module_mode_tables, LevelLaws.level_more, LevelLaws.level_top, LevelLaws.level_end, LevelLaws.level_start}
use Rattle.htl_patch.proofs.limits.level.Goals as goal

pub loop-left-init : goal.loop-left-init
loop-left-init c = (omega arith, level_start (module_mode_tables c.args.modules.now c.args.modes.now) c.args.steps c.args.unit)

pub loop-left-preserved : goal.loop-left-preserved
loop-left-preserved c =
    let t = module_mode_tables c.args.modules.now c.args.modes.now in
    let some : 0 < c.loop-left.left = grind (arith, nat_tests, c.loop-left-test.true) in (
      omega (arith, c.loop-left.invariant.0),
      level_more t c.args.steps c.loop-left.left c.loop-left.here c.in-Some.mode c.module_of-here.result (level c.args.steps t c.args.unit) c.loop-left.invariant.0 some c.in-Some.ensures c.module_of-here.ensures
          c.loop-left.invariant.1,
    )

pub returns-in-None-clause-value : goal.returns-in-None-clause-value
returns-in-None-clause-value c =
    let t = module_mode_tables c.args.modules.now c.args.modes.now in
    level_top t c.args.steps c.loop-left.left c.loop-left.here (level c.args.steps t c.args.unit) c.in-None.ensures c.loop-left.invariant.1

pub returns-clause-value : goal.returns-clause-value
returns-clause-value c =
    let t = module_mode_tables c.args.modules.now c.args.modes.now in
    let none : c.loop-left.left ≡ 0 = grind (arith, nat_tests, c.loop-left-test.false) in
    level_end t c.args.steps c.loop-left.left c.loop-left.here (level c.args.steps t c.args.unit) none c.loop-left.invariant.1
