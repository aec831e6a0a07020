use Rattle.htl_compile.proofs.Completeness.{front_only_memory}
use Rattle.htl_compile.proofs.laws.front_only_memory.Goals as goal

pub returns : goal.returns
returns c = λ bytes t f. front_only_memory bytes t f
