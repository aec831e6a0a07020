use Rattle.htl_plan.proofs.Words.{ap, slice_text, nothing_put}
use Rattle.htl_plan.proofs.plan_walk.write_slice.Goals as goal

pub returns-in-None : goal.returns-in-None
returns-in-None g c = nothing_put _ _ (slice_text c.args.t.now c.args.inv c.args.slice) _ (ap (slice_text c.args.t.now c.args.inv) c.in-None.is)
