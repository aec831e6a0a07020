use Rattle.htl_refine.proofs.ServedFrames.{every_job_in_time}
use Rattle.htl_refine.proofs.laws.every_job_in_time.Goals as goal

pub returns : goal.returns
returns c = every_job_in_time
