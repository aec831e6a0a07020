use Rattle.std.proofs.Common.{sym, arith}
use Rattle.htl_refine.proofs.OrderLaws.{beyond}
use Rattle.htl_refine.proofs.order.writer_parent.Goals as goal

pub returns-else-port-lt4096 : goal.returns-else-port-lt4096
returns-else-port-lt4096 c = sym (beyond c.args.t.now c.args.port c.keeps_ranges.ensures.ranges (omega arith))
