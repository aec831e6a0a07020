use Rattle.std.proofs.Common.{ℕ, ◌<◌, length, arith}
use Rattle.htl_plan.proofs.PlanWalk.{work_filled}
use Rattle.htl_plan.proofs.plan_walk.fill_work.Goals as goal

pub returns : goal.returns
returns c =
    work_filled c.args.jobs.now c.loop-p.left (omega (arith, c.requires, c.loop-p.auto.left))
    (λ (q : ℕ) (h : q < length c.args.jobs.now). c.loop-p.invariant q (omega arith))
