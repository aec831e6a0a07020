use Rattle.std.proofs.Common.{refl}
use Rattle.htl_top.proofs.audit_play.conclude.Goals as goal

pub returns-in-Err-clause-answer : goal.returns-in-Err-clause-answer
returns-in-Err-clause-answer g c = λ es audited. (c.in-Err.ensures.fault es audited, refl)
