use Rattle.htl_runs.proofs.{Words.job_lines_to, Words.schedules_of, Words.text_of, lines.JobLines.run_shows, lines.JobLines.jobs_are_found}
use Rattle.htl_runs.proofs.laws.job_lines_are_found.Goals as goal

pub returns : goal.returns
returns c = λ o es show end names jobs.
    jobs_are_found o.tables names (text_of o es show end) (job_lines_to o.tables (schedules_of o) es end) (run_shows o.tables (schedules_of o) es o.ecode show jobs end)
