use Rattle.htl_runs.proofs.frames.RunFrames.{values_go_on}
use Rattle.htl_runs.proofs.laws.values_go_on.Goals as goal

pub returns : goal.returns
returns c = values_go_on
