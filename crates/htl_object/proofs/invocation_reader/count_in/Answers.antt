use Rattle.std.proofs.Common.{arith}
use Rattle.htl_object.proofs.Noting.{later_counted}
use Rattle.htl_object.proofs.invocation_reader.count_in.Goals as goal

pub returns-else-mode-noted : goal.returns-else-mode-noted
returns-else-mode-noted c = later_counted c.args.noted.now c.args.before.now c.args.mode c.requires.noted (omega (arith, c.requires.later, c.if-mode-noted.false))
