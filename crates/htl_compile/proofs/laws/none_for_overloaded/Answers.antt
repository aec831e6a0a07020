use Rattle.htl_compile.proofs.SourceTables.{none_for_overloaded}
use Rattle.htl_compile.proofs.laws.none_for_overloaded.Goals as goal

pub returns : goal.returns
returns c = λ t sel a b demand. none_for_overloaded t sel a b demand
