use Rattle.htl_top.proofs.JobMeaning.{go_in_time}
use Rattle.htl_top.proofs.laws.go_tells_jobs_in_time.Goals as goal

pub returns : goal.returns
returns c = go_in_time
