use Rattle.std.proofs.Common.{arith}
use Rattle.htl_model.proofs.SelectionLaws.{position_below}
use Rattle.htl_model.proofs.tables.Tables.position.Goals as goal

pub returns-clause-within : goal.returns-clause-within
returns-clause-within c = omega (arith, position_below c.args.self.now c.args.selection c.args.p c.requires, c.position_at.ensures)
