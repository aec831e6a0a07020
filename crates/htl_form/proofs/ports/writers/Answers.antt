use Rattle.std.proofs.Common.{sym}
use Rattle.htl_form.proofs.PortLaws.{writers_past}
use Rattle.htl_form.proofs.ports.writers.Goals as goal

pub returns-else-port-lt-MAX_PORTS : goal.returns-else-port-lt-MAX_PORTS
returns-else-port-lt-MAX_PORTS c = sym (writers_past c.args.t.now c.args.port c.keeps_ranges.ensures.ranges c.if-port-lt-MAX_PORTS.false)
