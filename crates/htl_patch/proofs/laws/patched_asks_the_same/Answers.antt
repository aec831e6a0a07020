use Rattle.htl_patch.proofs.Accepting.{patched_same}
use Rattle.htl_patch.proofs.laws.patched_asks_the_same.Goals as goal

pub returns : goal.returns
returns c = patched_same
