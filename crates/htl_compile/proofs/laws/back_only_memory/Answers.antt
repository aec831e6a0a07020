use Rattle.htl_compile.proofs.Completeness.{back_only_memory}
use Rattle.htl_compile.proofs.laws.back_only_memory.Goals as goal

pub returns : goal.returns
returns c = λ t f. back_only_memory t f
