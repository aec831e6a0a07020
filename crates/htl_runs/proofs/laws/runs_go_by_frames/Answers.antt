use Rattle.htl_runs.proofs.frames.RunFrames.{feasible_runs}
use Rattle.htl_runs.proofs.laws.runs_go_by_frames.Goals as goal

pub returns : goal.returns
returns c = feasible_runs
