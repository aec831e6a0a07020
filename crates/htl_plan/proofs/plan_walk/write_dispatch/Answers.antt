use Rattle.htl_plan.proofs.Words.{Puts-cut, Puts-second}
use Rattle.htl_plan.proofs.plan_walk.write_dispatch.Goals as goal

pub returns-in-Err : goal.returns-in-Err
returns-in-Err g c = Puts-cut _ _ _ _ _ _ _ c.in-Err.ensures

pub returns : goal.returns
returns g c = Puts-second _ _ _ _ _ _ _ _ _ c.in_default.ensures.whole c.in_default.ensures.cause.kept c.write_done.ensures
