use Rattle.htl_runs.specs.lines.Programs.{schedules_of}
use Rattle.htl_runs.proofs.lines.JobLines.{run_shows}
use Rattle.htl_runs.proofs.laws.job_lines_are_records.Goals as goal

pub returns : goal.returns
returns c = λ o es show end jobs. run_shows o.tables (schedules_of o) es o.ecode show jobs end
