use Rattle.htl_walk.proofs.JobLaws.{abstract_jobs_work}
use Rattle.htl_walk.proofs.jobs.abstract_jobs.Goals as goal

pub returns-clause-work : goal.returns-clause-work
returns-clause-work c = abstract_jobs_work c.args.t.now c.args.selection c.keeps_ranges.ensures.ranges
