use Rattle.htl_emach.proofs.Completing.{finish_row, finish_applies, finish_keeps}
use Rattle.htl_emach.proofs.world.World.complete.Goals as goal

pub finish-requires-clause-row : goal.finish-requires-clause-row
finish-requires-clause-row c =
    finish_row c.args.t.now c.args.self.now c.args.inv c.keeps_ranges.ensures.ranges c.requires.shaped c.inv_at-x.result.now c.inv_at-x.ensures.at c.requires.concrete

pub finish-requires-clause-applies : goal.finish-requires-clause-applies
finish-requires-clause-applies c =
    finish_applies c.args.t.now c.args.self.now c.args.inv c.keeps_ranges.ensures.ranges c.requires.form c.requires.code c.requires.shaped c.inv_at-x.result.now c.inv_at-x.ensures.at c.requires.concrete

pub returns-clause-shaped : goal.returns-clause-shaped
returns-clause-shaped c =
    finish_keeps c.args.t.now c.args.self.now _ c.args.inv c.keeps_ranges.ensures.ranges c.requires.form c.requires.code c.requires.shaped c.inv_at-x.result.now c.inv_at-x.ensures.at c.requires.concrete c.finish.ensures
