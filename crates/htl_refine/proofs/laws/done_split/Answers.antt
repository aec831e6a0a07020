use Rattle.htl_refine.proofs.ListCounts.{done_split}
use Rattle.htl_refine.proofs.laws.done_split.Goals as goal

pub returns : goal.returns
returns c = done_split
