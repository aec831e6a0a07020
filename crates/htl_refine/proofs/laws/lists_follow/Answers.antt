use Rattle.htl_refine.proofs.ListsFollow.{lists_follow}
use Rattle.htl_refine.proofs.laws.lists_follow.Goals as goal

pub returns : goal.returns
returns c = lists_follow
