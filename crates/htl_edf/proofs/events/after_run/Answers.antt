use Rattle.htl_edf.proofs.Words.{arith, kept_pending, not_kept}
use Rattle.htl_edf.proofs.events.after_run.Goals as goal

pub returns-then-left-gt0 : goal.returns-then-left-gt0
returns-then-left-gt0 c = λ q. kept_pending c.args.ready c.args.k q c.args.left (omega (arith, c.if-left-gt0.true))

pub returns-else-left-gt0 : goal.returns-else-left-gt0
returns-else-left-gt0 c = λ q. not_kept c.args.ready c.args.k q c.args.left c.without_bit.result (omega (arith, c.if-left-gt0.false)) (c.without_bit.ensures q)
