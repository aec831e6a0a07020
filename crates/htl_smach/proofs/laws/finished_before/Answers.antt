use Rattle.htl_smach.proofs.PathRuns.{finished_before}
use Rattle.htl_smach.proofs.laws.finished_before.Goals as goal

pub returns : goal.returns
returns c = λ u j p. finished_before u j p
