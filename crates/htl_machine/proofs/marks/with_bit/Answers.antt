use Rattle.htl_machine.proofs.RowBits.{joined}
use Rattle.htl_machine.proofs.marks.with_bit.Goals as goal

pub returns : goal.returns
returns c = λ k. joined c.args.row c.args.bit k c.requires
