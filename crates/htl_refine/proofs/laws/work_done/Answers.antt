use Rattle.htl_refine.proofs.WorkDone.{work_done}
use Rattle.htl_refine.proofs.laws.work_done.Goals as goal

pub returns : goal.returns
returns c = work_done
