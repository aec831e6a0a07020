use Rattle.htl_refine.proofs.ServedJobs.{frames_serve}
use Rattle.htl_refine.proofs.laws.frames_serve.Goals as goal

pub returns : goal.returns
returns c = frames_serve
