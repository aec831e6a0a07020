use Rattle.std.proofs.Common.{refl}
use Rattle.htl_plan.proofs.ToldRecords.{Puts-frame}
use Rattle.htl_plan.proofs.plan_lists.write_frame.Goals as goal

pub returns-in-Ok : goal.returns-in-Ok
returns-in-Ok g c =
    Puts-frame c.args.l.now.tables c.args.jobs.now c.args.end _ _ _ _ _ _ _ _ _ _ _ _ refl c.in-Ok.ensures.count c.in-Ok.ensures.finished c.in-Ok.ensures.put c.line_plan.ensures
