use Rattle.htl_times.proofs.Rising.{stands_within_root}
use Rattle.htl_times.proofs.laws.stands_within_root.Goals as goal

pub returns : goal.returns
returns c = stands_within_root
