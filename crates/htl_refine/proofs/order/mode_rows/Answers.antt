use Rattle.std.proofs.Common.{◌∙◌, ap, arith}
use Rattle.htl_model.specs.Bits.{cell}
use Rattle.htl_refine.proofs.OrderLaws.{cell_is}
use Rattle.htl_refine.proofs.order.mode_rows.Goals as goal

pub returns-clause-closed : goal.returns-clause-closed
returns-clause-closed c = λ b a is_b is_a.
    ap (λ rows. cell rows b a) c.through_all.ensures.rows
    ∙ cell_is c.args.t.now c.args.mode c.args.base c.args.n b a c.fill_rows.new.rows c.requires.range (omega arith) c.fill_rows.ensures.steps is_b is_a
