use Rattle.std.proofs.Common.{sym}
use Rattle.htl_audit.proofs.Reading.{invocation_below}
use Rattle.htl_audit.proofs.log.of_fields.Goals as goal

pub returns-in-Some-invocation-clause-known : goal.returns-in-Some-invocation-clause-known
returns-in-Some-invocation-clause-known c = invocation_below c.args.names.now c.args.name.now c.in-Some-invocation.inv (sym c.in-Some-invocation.ensures)
