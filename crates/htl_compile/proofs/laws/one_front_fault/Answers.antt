use Rattle.htl_compile.proofs.Completeness.{one_front_fault}
use Rattle.htl_compile.proofs.laws.one_front_fault.Goals as goal

pub returns : goal.returns
returns c = λ bytes f g. one_front_fault bytes f g
