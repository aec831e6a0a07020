use Rattle.htl_edf.proofs.{Words.List, Words.sym, Words.subst, Words.arith, Words.AreWellFormed, Words.IsReport, Words.Job, Words.jobs_of, Words.NoCycle, Words.tightened, NodeCode.frame_end}
use Rattle.htl_edf.proofs.nodes.path_overload.Goals as goal

pub overload_of-requires-clause-jobs : goal.overload_of-requires-clause-jobs
overload_of-requires-clause-jobs c = subst AreWellFormed (sym c.frame_jobs-count.ensures.jobs) (c.requires.ready.each c.args.path c.requires.path).jobs

pub overload_of-requires-clause-order : goal.overload_of-requires-clause-order
overload_of-requires-clause-order c = subst (λ js. NoCycle (jobs_of js)) (sym c.frame_jobs-count.ensures.jobs) (c.requires.ready.each c.args.path c.requires.path).order

pub overload_of-requires-clause-period : goal.overload_of-requires-clause-period
overload_of-requires-clause-period c = omega (arith, frame_end c.args.t.now c.args.f.now c.requires.frame, c.requires.frame.limits.frame)

pub returns : goal.returns
returns c = subst (λ (js : List Job). IsReport (tightened js) c.overload_of.result) c.frame_jobs-count.ensures.jobs c.overload_of.ensures
