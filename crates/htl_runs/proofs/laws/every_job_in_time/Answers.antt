use Rattle.htl_runs.proofs.{Words.every_job_in_time, Words.schedules_of, jobs.Accepted.accepted_is_loaded, lists.LoadedLists.run_of}
use Rattle.htl_runs.proofs.laws.every_job_in_time.Goals as goal

pub returns : goal.returns
returns c = λ o es end accepted within some. every_job_in_time o.tables (schedules_of o) es end (run_of o.tables (schedules_of o) (accepted_is_loaded o accepted) es within some)
