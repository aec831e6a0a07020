use Rattle.htl_runs.proofs.lists.RunLists.{runs_go_by_lists}
use Rattle.htl_runs.proofs.laws.runs_go_by_lists.Goals as goal

pub returns : goal.returns
returns c = runs_go_by_lists
