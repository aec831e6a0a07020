use Rattle.htl_edf.proofs.Words.{List, sym, subst, IsReport, Job, jobs_of, NoCycle, tightened}
use Rattle.htl_edf.proofs.nodes.plan_path.Goals as goal

pub find_overload-requires-clause-order : goal.find_overload-requires-clause-order
find_overload-requires-clause-order c = subst (λ js. NoCycle (jobs_of js)) (sym c.frame_jobs-count.ensures.jobs) (c.requires.ready.each c.args.path.number c.requires.path).order

pub returns-clause-overload : goal.returns-clause-overload
returns-clause-overload c = subst (λ (js : List Job). IsReport (tightened js) c.find_overload.result) c.frame_jobs-count.ensures.jobs c.find_overload.ensures
