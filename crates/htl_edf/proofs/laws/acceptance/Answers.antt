use Rattle.htl_edf.proofs.Walking.{meets_and_accepted}
use Rattle.htl_edf.proofs.laws.acceptance.Goals as goal

pub returns : goal.returns
returns c = meets_and_accepted
