use Rattle.htl_refine.proofs.OneFault.{one_first_broken}
use Rattle.htl_refine.proofs.laws.one_first_fault.Goals as goal

pub returns : goal.returns
returns c = λ t f g range p q. one_first_broken t range f g p q
