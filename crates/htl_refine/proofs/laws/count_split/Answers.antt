use Rattle.htl_refine.proofs.ListCounts.{count_split}
use Rattle.htl_refine.proofs.laws.count_split.Goals as goal

pub returns : goal.returns
returns c = count_split
