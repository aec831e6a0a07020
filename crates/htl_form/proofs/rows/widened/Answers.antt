use Rattle.htl_form.proofs.RowLaws.{widened_apart, widened_shared}
use Rattle.htl_form.proofs.rows.widened.Goals as goal

pub returns-then-row-bit-eq0 : goal.returns-then-row-bit-eq0
returns-then-row-bit-eq0 c = λ k alone. widened_apart c.args.other c.args.bit k c.args.row alone c.if-row-bit-eq0.true

pub returns-else-row-bit-eq0 : goal.returns-else-row-bit-eq0
returns-else-row-bit-eq0 c = λ k alone. widened_shared c.args.other c.args.bit k c.args.row alone c.if-row-bit-eq0.false
