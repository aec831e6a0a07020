use Rattle.htl_refine.proofs.RecordLists.{lists_run}
use Rattle.htl_refine.proofs.laws.lists_run.Goals as goal

pub returns : goal.returns
returns c = lists_run
