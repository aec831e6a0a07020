use Rattle.htl_refine.proofs.PathRead.{paths_read}
use Rattle.htl_refine.proofs.laws.paths_read.Goals as goal

pub returns : goal.returns
returns c = paths_read
