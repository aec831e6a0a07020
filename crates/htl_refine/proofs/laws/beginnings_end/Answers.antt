use Rattle.htl_refine.proofs.BeginningsEnd.{beginnings_end}
use Rattle.htl_refine.proofs.laws.beginnings_end.Goals as goal

pub returns : goal.returns
returns c = beginnings_end
