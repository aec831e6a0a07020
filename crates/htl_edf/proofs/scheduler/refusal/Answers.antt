use Rattle.htl_edf.proofs.Walks.{no_schedule}
use Rattle.htl_edf.proofs.scheduler.refusal.Goals as goal

pub returns-in-Some : goal.returns-in-Some
returns-in-Some c = λ period.
    let i = c.in-Some.i in
    (c.in-Some.ensures, λ s accepted. no_schedule c.args.jobs.now c.requires.jobs c.requires.order _ _ i.demand c.in-Some.ensures.over period s accepted)
