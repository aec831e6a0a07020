use Rattle.htl_runs.specs.lines.Programs.{schedules_of}
use Rattle.htl_runs.proofs.{jobs.Accepted.accepted_is_loaded, jobs.JobTimes.told_in_time}
use Rattle.htl_runs.proofs.laws.every_job_is_told_in_time.Goals as goal

pub returns : goal.returns
returns c = λ o es end accepted within. told_in_time o.tables (schedules_of o) (accepted_is_loaded o accepted) es within end
