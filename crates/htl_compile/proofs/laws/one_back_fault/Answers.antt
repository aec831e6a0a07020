use Rattle.htl_compile.proofs.Completeness.{one_back_fault}
use Rattle.htl_compile.proofs.laws.one_back_fault.Goals as goal

pub returns : goal.returns
returns c = λ t f g. one_back_fault t f g
