use Rattle.htl_compile.proofs.Completeness.{one_compile_fault}
use Rattle.htl_compile.proofs.laws.one_compile_fault.Goals as goal

pub returns : goal.returns
returns c = λ bytes f g. one_compile_fault bytes f g
