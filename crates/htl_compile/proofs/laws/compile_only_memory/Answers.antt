use Rattle.htl_compile.proofs.Completeness.{compile_only_memory}
use Rattle.htl_compile.proofs.laws.compile_only_memory.Goals as goal

pub returns : goal.returns
returns c = λ bytes t f. compile_only_memory bytes t f
