use Rattle.htl_plan.proofs.Words.{ap, done_text, nothing_put}
use Rattle.htl_plan.proofs.plan_walk.write_done.Goals as goal

pub returns-else-finished : goal.returns-else-finished
returns-else-finished g c = nothing_put _ _ _ _ (ap (done_text c.args.t.now c.args.inv c.args.at) c.if-finished.false)
