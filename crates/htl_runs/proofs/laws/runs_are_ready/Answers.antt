use Rattle.htl_runs.proofs.frames.RunFrames.{run_ready}
use Rattle.htl_runs.proofs.laws.runs_are_ready.Goals as goal

pub returns : goal.returns
returns c = run_ready
