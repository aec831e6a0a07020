use Rattle.htl_load.proofs.Refusals.{accepted_is_not_refused}
use Rattle.htl_load.proofs.laws.accepted_is_not_refused.Goals as goal

pub returns : goal.returns
returns c = accepted_is_not_refused
