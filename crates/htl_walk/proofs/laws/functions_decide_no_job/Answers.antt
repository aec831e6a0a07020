use Rattle.htl_walk.proofs.SameJobs.{functions_decide_no_job}
use Rattle.htl_walk.proofs.laws.functions_decide_no_job.Goals as goal

pub returns : goal.returns
returns c = λ t fs. functions_decide_no_job t fs
