use Rattle.htl_top.proofs.JobMeaning.{go_job_lines}
use Rattle.htl_top.proofs.laws.go_shows_job_lines.Goals as goal

pub returns : goal.returns
returns c = go_job_lines
