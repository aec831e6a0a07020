use Rattle.htl_load.proofs.Refusals.{one_fault}
use Rattle.htl_load.proofs.laws.one_fault.Goals as goal

pub returns : goal.returns
returns c = one_fault
