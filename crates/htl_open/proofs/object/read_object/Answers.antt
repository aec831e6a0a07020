use Rattle.std.proofs.Common.{sym, subst}
use Rattle.htl_load.proofs.Words.{HasBytes, IsAccepted, Object}
use Rattle.htl_open.proofs.object.read_object.Goals as goal

pub returns-in-Ok-tested : goal.returns-in-Ok-tested
returns-in-Ok-tested c =
    subst (λ (x : Object). HasBytes c.args.bytes.now x × IsAccepted x) (sym c.in-Ok-tested.ensures.accepted.0)
    (record { object = c.in-Ok.ensures.found.0; spelled = c.in-Ok.ensures.found.1 }, c.in-Ok-tested.ensures.accepted.1)
