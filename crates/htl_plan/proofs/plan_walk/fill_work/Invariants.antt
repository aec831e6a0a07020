use Rattle.std.proofs.Common.{◌≡◌, ℕ, ◌<◌, get_or, map}
use Rattle.htl_plan.specs.Plans.{work_of}
use Rattle.htl_plan.proofs.plan_walk.fill_work.Given as goal

abbrev pub invariant-loop-p : goal.invariant-loop-p
invariant-loop-p l = (q : ℕ) → q < l.p → get_or l.left q 0 ≡ get_or (map work_of l.jobs) q 0
