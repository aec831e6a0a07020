use Rattle.std.proofs.Common.{arith}
use Rattle.htl_edf.proofs.Jumps.{left_at_start}
use Rattle.htl_edf.proofs.events.start.Goals as goal

pub returns : goal.returns
returns c = left_at_start c.args.jobs.now _ (λ q l. c.loop-q.invariant q (omega arith))
