use Rattle.std.proofs.Common.{arith}
use Rattle.htl_model.proofs.SelectionLaws.{root_mode_below}
use Rattle.htl_model.proofs.tables.Tables.root_mode.Goals as goal

pub returns-clause-within : goal.returns-clause-within
returns-clause-within c = omega (arith, root_mode_below c.args.self.now c.args.selection c.args.«module» c.keeps_ranges.ensures.ranges c.requires, c.root_mode.ensures)
