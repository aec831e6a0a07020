use Rattle.std.proofs.Common.{cond, eqb, sym, ◌∙◌, ap, arith}
use Rattle.htl_machine.proofs.{Words.has_bit, RowBits.cleared}
use Rattle.htl_machine.proofs.marks.put_bit.Goals as goal

pub returns-else-set : goal.returns-else-set
returns-else-set c = λ k.
    cleared c.args.row c.args.bit k c.requires (omega (arith, c.ranges.row.fits))
    ∙ ap (λ b. cond (eqb k c.args.bit) b (has_bit c.args.row k)) (sym c.if-set.false)
