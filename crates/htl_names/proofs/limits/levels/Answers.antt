use Rattle.htl_names.proofs.Words.{common_steps, length-list_to, get_list_to, level_by, arith, length, refined_at}
use Rattle.htl_names.proofs.limits.levels.Goals as goal

pub loop-p-preserved : goal.loop-p-preserved
loop-p-preserved c =
    let n = length c.args.refined.now in
    let here = get_list_to (level_by (refined_at c.args.refined.now) n) n c.loop-p.p 0 in
    grind (arith, common_steps, length-list_to)

pub returns : goal.returns
returns c = grind (arith, common_steps, length-list_to)
