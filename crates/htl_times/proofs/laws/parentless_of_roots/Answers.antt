use Rattle.htl_times.proofs.Rising.{parentless_of_roots}
use Rattle.htl_times.proofs.laws.parentless_of_roots.Goals as goal

pub returns : goal.returns
returns c = parentless_of_roots
