use Rattle.htl_runs.proofs.lists.AddedJobs.{lists_are_begun}
use Rattle.htl_runs.proofs.laws.lists_are_begun.Goals as goal

pub returns : goal.returns
returns c = lists_are_begun
