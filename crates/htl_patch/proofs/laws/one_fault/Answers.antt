use Rattle.htl_patch.proofs.OneStop.{one_patch_fault}
use Rattle.htl_patch.proofs.laws.one_fault.Goals as goal

pub returns : goal.returns
returns c = one_patch_fault
