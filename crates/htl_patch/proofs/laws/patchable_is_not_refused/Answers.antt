use Rattle.htl_patch.proofs.Stopping.{patch_not_refused}
use Rattle.htl_patch.proofs.laws.patchable_is_not_refused.Goals as goal

pub returns : goal.returns
returns c = patch_not_refused
