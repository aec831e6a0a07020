use Rattle.htl_walk.proofs.Words.{sym, subst, SInstr, IsMissAt}
use Rattle.htl_walk.proofs.step.step.Goals as goal

pub returns-in-Err-clause-missed : goal.returns-in-Err-clause-missed
returns-in-Err-clause-missed c =
    subst (λ (i : SInstr). IsMissAt c.args.jobs.now i c.args.at (record { time = c.args.now.time; left = c.args.left.now }) c.in-Err.miss) (sym c.in-Dispatch.is) (c.in-Err.ensures.missed c.args.at)
