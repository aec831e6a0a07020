use Rattle.htl_runs.proofs.lists.NextLists.{lists_begin}
use Rattle.htl_runs.proofs.laws.lists_begin.Goals as goal

pub returns : goal.returns
returns c = lists_begin
