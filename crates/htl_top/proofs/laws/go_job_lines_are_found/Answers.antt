use Rattle.htl_top.proofs.JobMeaning.{go_lines_found}
use Rattle.htl_top.proofs.laws.go_job_lines_are_found.Goals as goal

pub returns : goal.returns
returns c = go_lines_found
