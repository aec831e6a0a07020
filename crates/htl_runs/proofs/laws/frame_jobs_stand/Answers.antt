use Rattle.htl_runs.proofs.frames.FrameJobs.{frame_jobs_so_far}
use Rattle.htl_runs.proofs.laws.frame_jobs_stand.Goals as goal

pub returns : goal.returns
returns c = frame_jobs_so_far
