use Rattle.htl_smach.proofs.PathRuns.{path_records}
use Rattle.htl_smach.proofs.laws.path_records.Goals as goal

pub returns : goal.returns
returns c = λ u j is. path_records u j is
