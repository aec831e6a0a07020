use Rattle.htl_compile.proofs.CodedLaws.{coded_runs}
use Rattle.htl_compile.proofs.laws.coded_runs_the_same.Goals as goal

pub returns : goal.returns
returns c = λ t range. coded_runs t range
