use Rattle.htl_times.proofs.Rising.{each_has_root}
use Rattle.htl_times.proofs.laws.each_has_root.Goals as goal

pub returns : goal.returns
returns c = each_has_root
