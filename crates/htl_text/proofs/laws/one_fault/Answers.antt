use Rattle.htl_text.proofs.FirstFault.{Faults-unique}
use Rattle.htl_text.proofs.laws.one_fault.Goals as goal

pub returns : goal.returns
returns c = Faults-unique
