use Rattle.htl_patch.proofs.Accepting.{patched_accepted}
use Rattle.htl_patch.proofs.laws.patched_is_accepted.Goals as goal

pub returns : goal.returns
returns c = patched_accepted
